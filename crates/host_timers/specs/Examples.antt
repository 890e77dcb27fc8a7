-- The meaning of each number of an answer, computed from the definitions. This catches errors that definition and code
-- have in common.
use Rattle.std.specs.Prelude.{◌≡◌, refl, Some, None, Ok, Err}
use Rattle.rules_refusals.specs.declared.Refusal.TheVariants.{BadSetting, BadState, BadTime}
use Rattle.rules_timers.specs.declared.Timers.{Timers}
use Rattle.host_timers.specs.TimersAnswers.{blanks, timers_answer, timers_set, timers_checked, nanoseconds}

pub record Examples : Type 0 where
  -- the three outcomes of a check: nothing, some periods, a refusal that leaves the timers unchanged
  pub quiet : timers_checked blanks (Ok (None, blanks)) ≡ timers_answer 0 0 blanks
  pub fired : timers_checked blanks (Ok (Some 2, blanks)) ≡ timers_answer 0 2 blanks
  pub late : (ts : Timers) → timers_checked ts (Err BadTime) ≡ timers_answer 4 0 ts
  -- a refused setting leaves them unchanged too
  pub unset : (ts : Timers) → timers_set ts (Err BadSetting) ≡ timers_answer 1 0 ts
  pub unread : nanoseconds (Err BadState) ≡ record { refusal = 3; nanoseconds = 0 }

pub examples : Examples
unfolding timers_set timers_checked nanoseconds
examples = record { quiet = refl; fired = refl; late = λ ts. refl; unset = λ ts. refl; unread = refl }
