-- The code of the call agrees with its definition.
--   judge-run-is   a chain of the tests is the verdict; no code cites it now
--   runnable       a run that no test refuses
--   run-done       the answer, from what the run left
use Rattle.std.specs.Prelude.{◌≡◌, List, ltb, leb, length, Ok}
use Rattle.std.proofs.Common.{ap, ◌∙◌}
use Rattle.std.proofs.Math.Bool.{Bool}
use Prim.Native.Nat.{ℕ, ◌^◌}
use borrow.Author.Tests.{leb-false, ltb-false}
use Rattle.rules_refusals.specs.declared.Refusal.TheVariants.{BadTime, NoRoom}
use Rattle.rules_refusals.specs.Verdict.{Verdict, accepted, when}
use Rattle.refusals.specs.Laws.{when-accepted}
use Rattle.book_rules.specs.Kept.Stands.{kept-ready}
use Rattle.buffer.specs.State.{state}
use Rattle.buffer.specs.declared.SendBuffer.{SendBuffer}
use Rattle.buffer_run.specs.Run as Run
use Rattle.buffer_run.specs.Run.{walk}
use Rattle.buffer_run.specs.Run.Turns.{Runnable}
use Rattle.sender.specs.SenderAndAreas.{Books, state_of, rules_of, areas_short, judge, judge_areas}
use Rattle.sender.specs.SenderAndAreas.Laws.{judged}
use Rattle.sender.specs.Calls.{sender_of, then}
use Rattle.sender.specs.Calls.Laws.{then-accepted}
use Rattle.run.specs.Runs.{room_for, run_verdict, runs, ran_by}

module _ (g : Books) (now p : ℕ) where
  pub judge-run-is : (out : ℕ) (state room times v : Verdict) (needed : ℕ) → state ≡ judge_areas g
      → needed ≡ room_for p g.sender.buffer.ring.len
      → room ≡ when (ltb out needed) NoRoom accepted
      → times ≡ when (leb (2 ^ 48) now) BadTime room
      → v ≡ then state times
      → v ≡ run_verdict g now p out
  unfolding run_verdict
  judge-run-is out state room times v needed a n d e h = h ∙ rw (a, e, d, n)

  pub runnable : (out : List ℕ) → run_verdict g now p (length out) ≡ accepted → Runnable (rules_of g) now p (state_of g) out
  unfolding run_verdict
  runnable out e =
      let short : Bool = areas_short (rules_of g) (length g.ring) (length g.lost) in
      let n : ℕ = room_for p g.sender.buffer.ring.len in
      let both = then-accepted (judge short g) (when (leb (2 ^ 48) now) BadTime (when (ltb (length out) n) NoRoom accepted)) e in
      let a = when-accepted (leb (2 ^ 48) now) BadTime (when (ltb (length out) n) NoRoom accepted) both.1 in
      let b = when-accepted (ltb (length out) n) NoRoom accepted a.1 in
      record { ready = kept-ready (rules_of g) (state_of g) (judged short g both.0).buffer; early = leb-false _ _ a.0; room = ltb-false _ _ b.0 }

  pub run-done : (draining : Bool) (out : List ℕ) (b : SendBuffer) (ring lost left : List ℕ) (n budget : ℕ)
      → walk (state b ring lost) left n budget ≡ Run.run (rules_of g) now draining p (state_of g) out
      → runs (Ok (sender_of g.sender.settings b g.sender.pacing, n, budget)) ring lost left ≡ ran_by g.sender (Run.run (rules_of g) now draining p (state_of g) out)
  run-done draining out b ring lost left n budget e = ap (ran_by g.sender) e
