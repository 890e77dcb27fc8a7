-- The order of refusals. Document 01, "Refusal numbers": "The lowest that applies is given".
--   Verdict            the verdict of a call's tests: `accepted`, or `refused` with the refusal
--   when t r v         r where the test t holds, else v: the tests of a call are a chain of these, in order
--   answer f v a       the call's answer: f of the refusal, or a where the call is accepted
--   verdict_number v   0 where the call is accepted, else the refusal's number
use Rattle.std.specs.Prelude.{Bool, true, false, ℕ, Result, Ok, Err}
use Rattle.rules_refusals.specs.Table.{number_of}
use Rattle.rules_refusals.specs.declared.Refusal.{Refusal}

abbrev pub Verdict : Type 0
Verdict = Result (Unit {0}) Refusal

abbrev pub accepted : Verdict
accepted = Ok tt

abbrev pub refused : Refusal → Verdict
refused = Err

abbrev pub when : Bool → Refusal → Verdict → Verdict
when true r v = Err r
when false r v = v

abbrev pub answer : {A : Type 0} → (Refusal → A) → Verdict → A → A
answer f (Ok _) a = a
answer f (Err r) a = f r

abbrev pub verdict_number : Verdict → ℕ
verdict_number (Ok _) = 0
verdict_number (Err r) = number_of r
