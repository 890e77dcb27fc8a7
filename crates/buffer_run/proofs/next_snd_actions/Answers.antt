-- `buffer_run::next_snd_actions` meets its contract: the loop keeps `Going`: from here the run ends as it does from the
-- start.
use Rattle.std.proofs.Common.{arith, refl, ◌∙◌}
use Rattle.buffer_run.specs.Run.Turns.{run_none}
use Rattle.buffer_run.specs.Run.Going.{run-from, going_start, going_turning, going_on, going_less, going_end, going_done}
use Rattle.buffer_run.proofs.next_snd_actions.Goals as goal

pub returns-then-budget-lt1 : goal.returns-then-budget-lt1
returns-then-budget-lt1 c = run_none _ _ _ _ _ _ c.if-budget-lt1.true

pub loop-left-init : goal.loop-left-init
loop-left-init c = (going_start _ _ _ _ _ _ _ _ c.sweep-here.ensures refl c.if-budget-lt1.false c.requires, refl)

pub turn-requires : goal.turn-requires
turn-requires c = going_turning _ _ _ _ _ _ _ c.loop-left.invariant.0 c.if-left-lt1.false

pub loop-left-smaller : goal.loop-left-smaller
loop-left-smaller c =
    rw c.saturating_sub-left.ensures (going_less _ _ _ _ _ _ _ c.loop-left.invariant.0 c.if-left-lt1.false _ _ _ c.in-Continue.ensures refl).1

pub loop-left-preserved : goal.loop-left-preserved
loop-left-preserved c =
    let d = c.in-Continue.ensures in
    let v = c.loop-left.invariant in
    (rw c.saturating_sub-left.ensures (going_on _ _ _ _ _ c.loop-left.written _ v.0 c.if-left-lt1.false _ _ _ d refl), d.wrote.same.name ∙ v.1)

pub returns-then-left-lt1 : goal.returns-then-left-lt1
returns-then-left-lt1 c =
    let lent = c.loop-left.invariant.1 ∙ c.sweep-here.ensures.same.name in
    let end = going_done _ _ _ _ _ c.loop-left.invariant.0 (omega (arith, c.if-left-lt1.true))
    ∙ run-from _ _ _ _ _ _ _ _ c.sweep-here.ensures refl c.if-budget-lt1.false in
    grind (arith, lent, end)

pub returns-in-Break : goal.returns-in-Break
returns-in-Break c =
    let lent = c.in-Break.ensures.wrote.same.name ∙ c.loop-left.invariant.1 ∙ c.sweep-here.ensures.same.name in
    let end = going_end _ _ _ _ _ _ _ c.loop-left.invariant.0 c.if-left-lt1.false _ _ _ c.in-Break.ensures refl
    ∙ run-from _ _ _ _ _ _ _ _ c.sweep-here.ensures refl c.if-budget-lt1.false in
    grind (arith, lent, end)
