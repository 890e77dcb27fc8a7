-- `loss_list::write_run` meets its contract: each turn of the loop writes one more number (`written_step`).
use Rattle.std.proofs.Common.{arith, ◌+◌, ◌-◌, ◌≡◌}
use Rattle.loss_list.proofs.Turns.{written_none, written_step}
use Rattle.loss_list.proofs.write_run.Goals as goal

pub loop-i-init : goal.loop-i-init
loop-i-init c =
    let all : c.args.end - 0 ≡ c.args.end = omega arith in
    rw all (written_none c.args.list.now c.args.end c.args.first.0)

pub loop-i-preserved : goal.loop-i-preserved
loop-i-preserved c =
    let a = c.args in
    let next : a.end - 1 - c.loop-i.i ≡ a.end - c.loop-i.i - 1 = omega arith in
    let left : a.end - (c.loop-i.i + 1) ≡ a.end - c.loop-i.i - 1 = omega arith in
    rw (c.loop-i.invariant, c.plus.ensures, next, left)
    (written_step a.list.now (a.end - c.loop-i.i) a.end a.first.0 c.loop-i.i (omega arith) (omega arith))
