-- `pacing::on_input` meets its contract: the three tests give what `input` requires (`accepted`).
use Rattle.std.proofs.Common.{sym, ◌∙◌}
use Rattle.pacing.specs.Laws.Pacing.{accepted}
use Rattle.pacing.proofs.on_input.Goals as goal

pub input-requires : goal.input-requires
input-requires c =
    let a = c.args in
    let kept = sym c.kept.ensures ∙ c.if-not-kept.false in
    accepted a.s a.now a.packets a.bytes kept c.if-now-ge-TIME_LIMIT.false (sym c.count_full.ensures ∙ c.if-count_full.false)
