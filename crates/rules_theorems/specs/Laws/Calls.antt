-- What the theorems use of a call's answer.
--   accepted, refused r   the answer of an accepted call, and of a refused one
--   answer-by             what holds of both holds of the answer
--   answer-taken          an accepted call has the first
--   answer-verdict        the verdict in the answer is that of the tests
use Rattle.std.proofs.Common.{◌∙◌, sym}
use Rattle.std.specs.Prelude.{◌≡◌, Ok, Err}
use Rattle.std.proofs.Math.Path.{ap, refl}
use Rattle.rules_refusals.specs.declared.Refusal.{Refusal}
use Rattle.rules.specs.Calls.{Answer, Call, Nothing, after, answer, answer_by, left, said_by, verdict_of}
use Rattle.rules.specs.Sender.{Sender}
use Rattle.rules.specs.Settings.{Settings}
use Rattle.rules_refusals.specs.Verdict.{Verdict}

module _ (c : Settings) (k : Call) (s : Sender) where
  abbrev pub accepted : Answer
  accepted = record { verdict = Ok tt; said = said_by c k s; after = after c k s }

  abbrev pub refused : Refusal → Answer
  refused r = record { verdict = Err r; said = Nothing; after = left k s r }

  pub answer-by : (P : Answer → Type 0) → ((r : Refusal) → verdict_of c k s ≡ Err r → P (refused r))
      → (verdict_of c k s ≡ Ok tt → P accepted)
      → P (answer c k s)
  unfolding answer answer_by
  answer-by P f g = go (verdict_of c k s) refl
    where
      go : (v : Verdict) → verdict_of c k s ≡ v → P (answer_by c v k s)
      go (Ok _) e = g e
      go (Err r) e = f r e

  pub answer-verdict : (answer c k s).verdict ≡ verdict_of c k s
  answer-verdict = answer-by (λ (a : Answer). a.verdict ≡ verdict_of c k s) (λ r e. sym e) (λ e. sym e)

  pub answer-taken : (answer c k s).verdict ≡ Ok tt → answer c k s ≡ accepted
  unfolding answer answer_by
  answer-taken h = ap (λ (v : Verdict). answer_by c v k s) (sym answer-verdict ∙ h)
