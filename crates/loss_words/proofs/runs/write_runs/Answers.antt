-- `loss_words::runs::write_runs` meets its contract: each turn reads an item of the report and writes its runs
-- (`Answering`).
use Rattle.std.proofs.Common.{arith, refl, ◌<◌}
use Rattle.loss_words.proofs.Answering.{answering_none, some, answering_room, answering_step, answering_all}
use Rattle.loss_words.proofs.runs.write_runs.Goals as goal

pub loop-at-init : goal.loop-at-init
loop-at-init c = answering_none _ _ _ _ refl c.requires

pub write_item-requires : goal.write_item-requires
write_item-requires c = answering_room _ _ _ _ _ _ _ c.loop-at.invariant c.loop-at-test.true

pub loop-at-smaller : goal.loop-at-smaller
loop-at-smaller c =
    let taken : 0 < c.width-at.result = rw (c.width-at.ensures, c.step_at-step.ensures) (some _ _ _ _ _ _ _ c.loop-at.invariant c.loop-at-test.true) in
    omega (arith, taken, c.loop-at-test.true)

pub loop-at-preserved : goal.loop-at-preserved
loop-at-preserved c =
    rw (c.width-at.ensures, c.step_at-step.ensures)
    (answering_step _ _ _ _ _ _ _ c.loop-at.invariant c.loop-at-test.true _
    (rw (c.ends-first.ensures, c.step_at-step.ensures) at c.write_item.ensures))

pub returns : goal.returns
returns c =
    let lent = c.loop-at.invariant.same.name in
    let end = answering_all _ _ _ _ _ _ _ c.loop-at.invariant c.loop-at-test.false in
    grind (arith, lent, end)
