-- The run on the lent areas. Document 01, "Run": "(now, budget p, draining) .. While budget remains, the first that
-- applies". Rule 1 applies at most once, and first (rules_theorems, proofs/Split), so here it comes before the loop.
--   act, turn         what a rule does; the first rule that applies, done
--   Walk, walk        everything that a run changes: books and areas, the records, their number, the budget left
--   after             a walk after a turn
--   loop, run         the turns while budget remains; the run
--   swept, swept_by   rule 1, if the front is late; rule 1 for k packets
pub mod Going
pub mod Laws
pub mod Loop
pub mod Turns
use Rattle.std.specs.Prelude.{Bool, cond, List, ℕ, zero, suc, ◌+◌, ◌-◌, length}
use Rattle.rules.specs.Settings.{Settings}
use Rattle.rules.specs.Records.{sends}
use Rattle.rules.specs.Run.{late}
use Rattle.buffer.specs.State.{State, view}
use Rattle.run_choice.specs.declared.Rule.{Rule}
use Rattle.run_choice.specs.declared.Rule.TheVariants as rule
use Rattle.run_choice.specs.Choice.{rule_at}
use Rattle.run_effects.specs.Sending.{Turned, dropped, loss_turn, due_turn, window_turn, unsent_turn, flush_turn, input_turn, written}

module _ (c : Settings) (now : ℕ) (draining : Bool) where
  unfoldable pub act : Rule → State → Turned
  act rule.Loss st = loss_turn now st
  act (rule.Due i) st = due_turn now i st
  act rule.Window st = window_turn st
  act rule.Unsent st = unsent_turn now st
  act rule.Flush st = flush_turn c st
  act rule.Input st = input_turn st

  unfoldable pub turn : State → Turned
  turn st = act (rule_at c now draining st.books st.ring) st

-- books and areas, the list for the records, how many records there are, and the budget left
pub record Walk : Type 0 where
  pub state : State
  pub out : List ℕ
  pub count : ℕ
  pub left : ℕ

abbrev pub walk : State → List ℕ → ℕ → ℕ → Walk
walk st out count left = record { state = st; out = out; count = count; left = left }

abbrev pub after : Turned → Walk → ℕ → Walk
after t w left =
    record { state = t.state; out = written w.count t.records w.out; count = w.count + length t.records; left = left }

-- "Every send costs one unit, never below 0." b is the budget left; the fuel f is there only to show that this ends
unfoldable pub loop : (State → Turned) → ℕ → ℕ → Walk → Walk
loop turn zero b w = w
loop turn (suc f) zero w = w
loop turn (suc f) (suc b) w =
    let t = turn w.state in
    let rest = suc b - sends t.records in
    let more = loop turn f rest (after t w rest) in
    cond t.ends (after t w (suc b)) more

module _ (c : Settings) (now : ℕ) (draining : Bool) where
  abbrev pub swept_by : ℕ → Walk → Walk
  swept_by zero w = w
  swept_by (suc k) w = after (dropped (suc k) w.state) w w.left

  -- rule 1, if the front is late
  unfoldable pub swept : Walk → Walk
  swept w = swept_by (late c now (view w.state)) w

  unfoldable pub run : ℕ → State → List ℕ → Walk
  run zero st out = record { state = st; out = out; count = 0; left = 0 }
  run (suc p) st out = loop (turn c now draining) (suc p) (suc p) (swept (record { state = st; out = out; count = 0; left = suc p }))
