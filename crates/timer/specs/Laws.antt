-- What the code and the layers above use of a timer.
--   Kept t                   the book rules of a timer as facts
--   kept_facts, facts_kept   the test decides them, both ways
--   periods-within           the origin moves by no more than the time elapsed
--   tick_kept                after a check the timer still keeps the rules
use Rattle.std.specs.Prelude.{◌≡◌, true, ℕ, ◌+◌, ◌-◌, ◌*◌, ◌/◌, ◌≤◌, ◌<◌, min, ltb, leb, eqb}
use Rattle.std.proofs.Math.Bool.{and-eq-true_iff}
use Rattle.std.proofs.Common.{div-mul-le_self, mul-le-mul_right, le_trans, arith, ltb-true, leb-true, lt-ltb, le-leb, ltb-false}
use Rattle.laws.specs.Choice.{cond-by}
use Rattle.rules_timers.specs.declared.Timer.{Timer}
use Rattle.rules_timers.specs.declared.Ticked.{Ticked}
use Rattle.rules_timers.specs.Timer.{instant_limit, longest, most, kept, periods, ticked}

pub record Kept (t : Timer) : Type 0 where
  pub origin : t.last < instant_limit
  pub period : t.period ≤ longest

pub kept_facts : (t : Timer) → kept t ≡ true → Kept t
kept_facts t e =
    let both = (and-eq-true_iff (ltb t.last instant_limit) (leb t.period longest)).0 e in
    record { origin = ltb-true _ _ both.0; period = leb-true _ _ both.1 }

pub facts_kept : (t : Timer) → Kept t → kept t ≡ true
facts_kept t h = simp (lt-ltb _ _ h.origin, le-leb _ _ h.period)

pub periods-within : (elapsed period n : ℕ) → n ≤ elapsed / period → n * period ≤ elapsed
periods-within elapsed period n h = le_trans (mul-le-mul_right period h) (div-mul-le_self elapsed period)

pub tick_kept : (t : Timer) (now : ℕ) → now < instant_limit → Kept t → Kept (ticked t now).timer
unfolding ticked periods
tick_kept t now h k =
    cond-by {A = Ticked} (λ r. Kept r.timer) (eqb t.period 0) _ _ (λ e. k)
    (λ e. cond-by {A = Ticked} (λ r. Kept r.timer) (ltb now (t.last + t.period)) _ _ (λ e. k)
    (λ late. record { origin = moved (ltb-false _ _ late); period = k.period }))
  where
    moved : t.last + t.period ≤ now → t.last + min most ((now - t.last) / t.period) * t.period < instant_limit
    moved late =
        let within = periods-within (now - t.last) t.period (min most ((now - t.last) / t.period)) (omega arith) in
        omega arith
