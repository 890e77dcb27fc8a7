-- 0 can mean that no period elapsed.
--   Told e        a check that finds periods finds at least one
--   ticked-some   every check is such
use Rattle.std.specs.Prelude.{◌≡◌, ℕ, ◌+◌, ◌-◌, ◌*◌, ◌/◌, ◌≤◌, ◌<◌, min, ltb, eqb, Option, Some, None}
use Rattle.std.proofs.Common.{le-div_iff_mul-le, arith, ltb-false}
use Rattle.std.proofs.lemmas.Bool.{eqb-false}
use Rattle.laws.specs.Choice.{cond-by}
use Rattle.rules_timers.specs.declared.Ticked.{Ticked}
use Rattle.rules_timers.specs.declared.Timer.{Timer}
use Rattle.rules_timers.specs.Timer.{most, periods, ticked}

abbrev pub Told : Option ℕ → Type 0
Told None = Unit {0}
Told (Some n) = 1 ≤ n

pub ticked-some : (t : Timer) (now : ℕ) → Told (ticked t now).elapsed
unfolding ticked periods
ticked-some t now =
    cond-by {A = Ticked} (λ r. Told r.elapsed) (eqb t.period 0) _ _ (λ e. omega arith)
    (λ set. cond-by {A = Ticked} (λ r. Told r.elapsed) (ltb now (t.last + t.period)) _ _ (λ e. tt)
    (λ late. one (eqb-false _ _ set) (ltb-false _ _ late)))
  where
    one : (t.period ≡ 0 → ⊥) → t.last + t.period ≤ now → 1 ≤ min most ((now - t.last) / t.period)
    one set late =
        let pos : 0 < t.period = omega arith in
        let whole : 1 * t.period ≤ now - t.last = omega arith in
        let h : 1 ≤ (now - t.last) / t.period = (le-div_iff_mul-le pos).1 whole in
        omega arith
