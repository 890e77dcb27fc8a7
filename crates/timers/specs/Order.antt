-- The tests of the timers' calls stand in the order of refusals (rules_refusals, Order), and the first that holds decides.
--   Ordered v ts    the verdict v is that of the tests ts, and they stand in the order
--   ordered-first   so no test that holds has a refusal that stands before the one that is told
--   judge-ordered, new-ordered, period-ordered, rtt-ordered, next-ordered   the calls' verdicts
use Rattle.std.specs.Prelude.{◌≡◌, refl, true, not, ◌||◌, List, [], ◌∷◌, ℕ, ◌≤◌, ltb, leb, Option, Err}
use Rattle.std.proofs.Common.{sym, ◌∙◌}
use Rattle.rules_numbers.specs.declared.Rtt.{Rtt}
use Rattle.rules_numbers.specs.Rtt.{in_range}
use Rattle.rules_refusals.specs.declared.Refusal.{Refusal}
use Rattle.rules_refusals.specs.declared.Refusal.TheVariants.{BadSetting, BadState, BadTime, BadRtt}
use Rattle.rules_refusals.specs.Order.{Test, test, order, place_in, place, first_of, none_before, in_order}
use Rattle.refusals.specs.Order.{Each, first-least}
use Rattle.rules_timers.specs.declared.Timers.{Timers}
use Rattle.rules_timers.specs.Timer.{instant_limit, longest}
use Rattle.rules_timers.specs.Timers.{kept_all, judge, judge_new, judge_period, judge_rtt}
use Rattle.rules_timers.specs.Wake.{too_late, judge_next}
use Rattle.rules_refusals.specs.Verdict.{Verdict}

pub record Ordered (v : Verdict) (ts : List Test) : Type 0 where
  pub decided : v ≡ first_of ts
  pub ordered : in_order ts ≡ true

pub ordered-first : (v : Verdict) (ts : List Test) (r : Refusal) → Ordered v ts → v ≡ Err r
    → Each (λ (t : Test). t.holds ≡ true → place r ≤ place t.refusal) ts
ordered-first v ts r o e = first-least ts r o.ordered (sym o.decided ∙ e)

pub judge-ordered : (ts : Timers) (now : ℕ) → Ordered (judge ts now) (test (not (kept_all ts)) BadState ∷ test (leb instant_limit now) BadTime ∷ [])
unfolding judge first_of in_order none_before place place_in order
judge-ordered ts now = record { decided = refl; ordered = refl }

pub new-ordered : (now statistics idle : ℕ)
    → Ordered (judge_new now statistics idle) (test (ltb longest statistics || ltb longest idle) BadSetting ∷ test (leb instant_limit now) BadTime ∷ [])
unfolding judge_new first_of in_order none_before place place_in order
new-ordered now statistics idle = record { decided = refl; ordered = refl }

pub period-ordered : (ts : Timers) (period : ℕ)
    → Ordered (judge_period ts period) (test (ltb longest period) BadSetting ∷ test (not (kept_all ts)) BadState ∷ [])
unfolding judge_period first_of in_order none_before place place_in order
period-ordered ts period = record { decided = refl; ordered = refl }

pub rtt-ordered : (ts : Timers) (rtt : Rtt) → Ordered (judge_rtt ts rtt) (test (not (kept_all ts)) BadState ∷ test (not (in_range rtt)) BadRtt ∷ [])
unfolding judge_rtt first_of in_order none_before place place_in order
rtt-ordered ts rtt = record { decided = refl; ordered = refl }

pub next-ordered : (ts : Timers) (now : ℕ) (message : Option ℕ)
    → Ordered (judge_next ts now message) (test (not (kept_all ts)) BadState ∷ test (leb instant_limit now || too_late message) BadTime ∷ [])
unfolding judge_next first_of in_order none_before place place_in order
next-ordered ts now message = record { decided = refl; ordered = refl }
