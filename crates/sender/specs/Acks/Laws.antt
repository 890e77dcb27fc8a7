-- The code of the ACK agrees with its definition.
--   acknowledged-by   the answer, from what buffer_ack answered
--   judge-ack-is      a chain of the tests is the verdict; no code cites it now
--   asked             an ACK that 2, 3, 7 and 8 don't refuse
use Rattle.std.specs.Prelude.{◌≡◌, ℕ, ◌^◌, leb, length, Option, Result}
use Rattle.std.proofs.Common.{sym, ap, ◌∙◌}
use Rattle.std.proofs.Math.Bool.{Bool}
use borrow.Author.Tests.{leb-false}
use Rattle.rules_refusals.specs.declared.Refusal.TheVariants.{BadNumber, BadRtt}
use Rattle.rules_refusals.specs.Verdict.{Verdict, accepted, when}
use Rattle.refusals.specs.Laws.{when-accepted}
use Rattle.rules.specs.Refusals.{bad_rtt}
use Rattle.book_rules.specs.Kept.Stands.{kept-ready}
use Rattle.buffer_ack.specs.Ack.Laws.{Asked}
use Rattle.sender.specs.declared.Sender.{Sender}
use Rattle.sender.specs.SenderAndAreas.{Books, state_of, rules_of, areas_short, judge, judge_areas}
use Rattle.sender.specs.SenderAndAreas.Laws.{judged}
use Rattle.sender.specs.Calls.{then}
use Rattle.sender.specs.Calls.Laws.{then-accepted}
use Rattle.sender.specs.Acks.{ack_verdict, acknowledged}
use Rattle.rules_refusals.specs.declared.Refusal.{Refusal}
use Rattle.buffer_ack.specs.declared.AckAction.{AckAction}
use Rattle.buffer.specs.declared.SendBuffer.{SendBuffer}
use Rattle.rules_numbers.specs.declared.Rtt.{Rtt}

pub acknowledged-by : (s : Sender) (a x : Result (SendBuffer × AckAction) (SendBuffer × Refusal)) → a ≡ x → acknowledged s x ≡ acknowledged s a
acknowledged-by s a x e = ap (acknowledged s) (sym e)

module _ (g : Books) (n : ℕ) (rtt : Option Rtt) where
  pub judge-ack-is : (bad : Bool) (state times brought v : Verdict) → state ≡ judge_areas g
      → bad ≡ bad_rtt rtt
      → times ≡ when bad BadRtt accepted
      → brought ≡ when (leb (2 ^ 31) n) BadNumber times
      → v ≡ then state brought
      → v ≡ ack_verdict g n rtt
  unfolding ack_verdict
  judge-ack-is bad state times brought v a d e f h = h ∙ rw (a, f, e, d)

  pub asked : ack_verdict g n rtt ≡ accepted → Asked (rules_of g) (state_of g) n rtt
  unfolding ack_verdict
  asked e =
      let short : Bool = areas_short (rules_of g) (length g.ring) (length g.lost) in
      let both = then-accepted (judge short g) (when (leb (2 ^ 31) n) BadNumber (when (bad_rtt rtt) BadRtt accepted)) e in
      let a = when-accepted (leb (2 ^ 31) n) BadNumber (when (bad_rtt rtt) BadRtt accepted) both.1 in
      let b = when-accepted (bad_rtt rtt) BadRtt accepted a.1 in
      record { ready = kept-ready (rules_of g) (state_of g) (judged short g both.0).buffer; number = leb-false _ _ a.0; ranged = b.0 }
