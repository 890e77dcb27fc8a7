-- `loss_words::runs::Runs::write_item` meets its contract: each turn writes one run of the numbers left (`Writing`), in
-- at most three turns.
use Rattle.std.proofs.Common.{arith, lit<, ◌+◌, ◌-◌, ◌≡◌}
use Rattle.rules_numbers.specs.Modular.{seqs}
use Rattle.rules_numbers.specs.Modular.Laws.{dist-below}
use Rattle.loss_words.proofs.Writing.{item_is, writing_step, writing_all, writing_end}
use Rattle.loss_words.proofs.runs.Runs.write_item.Goals as goal

pub overflow_add-k : goal.overflow_add-k
overflow_add-k c =
    let a = c.args in
    omega (arith, c.distance-k.ensures, dist-below seqs a.first.0 a.last.0 (lit< tt))

pub returns-then-k-lt1 : goal.returns-then-k-lt1
returns-then-k-lt1 c =
    let a = c.args in
    rw (item_is a.front.0 a.sent a.first.0 a.last.0, ← c.distance-k.ensures)
    (writing_all _ _ _ _ _ _ _ _ c.loop.invariant c.if-k-lt1.true)

pub loop-preserved : goal.loop-preserved
loop-preserved c =
    let next : 3 - (c.loop.counter + 1) ≡ 3 - c.loop.counter - 1 = omega arith in
    rw (c.plus-end.ensures, c.min-count.ensures, next)
    (writing_step _ _ _ _ _ _ _ _ c.loop.invariant _ _ _ (omega arith) c.if-k-lt1.false c.loss_of-loss.ensures
    (rw (c.plus-end.ensures, c.min-count.ensures) at c.push.ensures))

pub returns : goal.returns
returns c =
    let a = c.args in
    rw (item_is a.front.0 a.sent a.first.0 a.last.0, ← c.distance-k.ensures)
    (writing_end _ _ _ _ _ _ _ _ c.loop.invariant (omega arith))
