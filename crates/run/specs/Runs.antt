-- A run on the sender and its lent areas. Document 01, "Run", and refusals 2, 3, 4 and 13: "Room needed: min(p,
-- buffered) + 3 records."
--   room_for p n         the bytes that a run with budget p needs, with n packets buffered
--   run_verdict          the refusals
--   Runs, runs, ran_by   the answer, and every lent element afterwards; those of an accepted run
--   run                  the call
pub mod Laws
pub mod Stands
use Rattle.std.specs.Prelude.{Bool, List, ℕ, ◌+◌, ◌*◌, ◌^◌, min, ltb, leb, length, Result, Ok, Err}
use Rattle.rules_refusals.specs.declared.Refusal.TheVariants.{BadTime, NoRoom}
use Rattle.rules_refusals.specs.Verdict.{Verdict, accepted, when, answer}
use Rattle.buffer_run.specs.Run as Run
use Rattle.buffer_run.specs.Run.{Walk}
use Rattle.sender.specs.declared.Sender.{Sender}
use Rattle.sender.specs.SenderAndAreas.{Books, state_of, rules_of, judge_areas}
use Rattle.sender.specs.Calls.{sender_of, then}
use Rattle.rules_refusals.specs.declared.Refusal.{Refusal}

abbrev pub room_for : ℕ → ℕ → ℕ
room_for p n = (min p n + 3) * 24

-- "4 BadTime, a time is at or over its limit", "13 NoRoom, lent answer list too short"
unfoldable pub run_verdict : Books → ℕ → ℕ → ℕ → Verdict
run_verdict g now p out =
    then (judge_areas g)
    (when (leb (2 ^ 48) now) BadTime (when (ltb out (room_for p g.sender.buffer.ring.len)) NoRoom accepted))

pub record Runs : Type 0 where
  pub answer : Result (Sender × ℕ × ℕ) Refusal
  pub ring : List ℕ
  pub lost : List ℕ
  pub out : List ℕ

abbrev pub runs : Result (Sender × ℕ × ℕ) Refusal → List ℕ → List ℕ → List ℕ → Runs
runs answer ring lost out = record { answer = answer; ring = ring; lost = lost; out = out }

-- the sender with the books after a run, how many records it wrote, and the budget left
abbrev pub ran_by : Sender → Walk → Runs
ran_by s w = runs (Ok (sender_of s.settings w.state.books s.pacing, w.count, w.left)) w.state.ring w.state.lost w.out

unfoldable pub run : Books → ℕ → ℕ → Bool → List ℕ → Runs
run g now p draining out =
    answer (λ r. runs (Err r) g.ring g.lost out) (run_verdict g now p (length out))
    (ran_by g.sender (Run.run (rules_of g) now draining p (state_of g) out))
