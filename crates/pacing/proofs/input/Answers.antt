-- `pacing::input` meets its contract: what `moved` leaves has room for this input (`moved-room`) and keeps the book
-- rules (`moved-kept`).
use Rattle.pacing.specs.Laws.Kept.{Kept}
use Rattle.pacing.specs.Laws.Pacing.{moved-kept, moved-room}
use Rattle.pacing.proofs.input.Goals as goal

pub add-after-requires : goal.add-after-requires
add-after-requires c =
    let a = c.args in
    rw c.moved-moved.ensures (moved-room a.s a.now a.packets a.bytes c.requires)

pub calculate_snd_period-period-requires : goal.calculate_snd_period-period-requires
calculate_snd_period-period-requires c =
    let kept = moved-kept c.args.s c.args.now c.requires.kept c.requires.time in
    let k : Kept c.moved-moved.result = rw c.moved-moved.ensures kept in
    (k.mode, k.bytes.mean)
