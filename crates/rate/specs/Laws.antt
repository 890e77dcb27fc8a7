-- What pacing and the layers above use of an estimate.
--   Ranged e                           the book rules for one estimation, as facts
--   rate_bound                         over 100,000 µs or more, a count in its range gives a rate in the mean's range
--   new_mean_bound                     the new mean lies in its range too
--   estimate-still                     with mean and variance 0 the mean becomes the rate, and the variance stays 0
--   estimate-ranged                    an estimate keeps the book rules
--   increment-ranged                   so does a count that stays in its range
--   in_range-ranged, ranged-in_range   the test decides the facts, both ways
use Rattle.std.specs.Prelude.{◌≡◌, true, cond, ◌&&◌, ℕ, ◌+◌, ◌*◌, ◌/◌, ◌^◌, ◌≤◌, leb, ltb, eqb}
use Rattle.std.proofs.Math.Bool.{and-eq-true_iff}
use Rattle.std.proofs.Math.Nat.{div-le_of_le-mul}
use Rattle.std.proofs.Common.{mul-le-mul_right, arith, leb-true, le-leb, eqb-true}
use Rattle.laws.specs.Choice.{cond-by}
use Rattle.rules_pacing.specs.declared.RateEstimation.{RateEstimation}
use Rattle.rules_pacing.specs.Rate.{rate, still, new_mean, apart, estimate, increment, in_range}

pub record Ranged (e : RateEstimation) : Type 0 where
  pub count : e.count ≤ 2 ^ 38
  pub mean : e.mean ≤ 2 ^ 42
  pub variance : e.variance ≤ 2 ^ 42

pub rate_bound : (count time : ℕ) → count ≤ 2 ^ 38 → 100_000 ≤ time → rate count time ≤ 2 ^ 42
rate_bound count time hc ht =
    let most : 100_000 * 2 ^ 42 ≤ time * 2 ^ 42 = mul-le-mul_right (2 ^ 42) ht in
    div-le_of_le-mul time (omega arith)

pub new_mean_bound : (e : RateEstimation) (r : ℕ) → e.mean ≤ 2 ^ 42 → r ≤ 2 ^ 42 → new_mean e r ≤ 2 ^ 42
unfolding new_mean
new_mean_bound e r hm hr =
    cond-by (λ (n : ℕ). n ≤ 2 ^ 42) (still e) r (cond (ltb e.mean r) ((e.mean + r) / 2) ((7 * e.mean + r) / 8)) (λ _. hr)
    (λ _. cond-by (λ (n : ℕ). n ≤ 2 ^ 42) (ltb e.mean r) ((e.mean + r) / 2) ((7 * e.mean + r) / 8) (λ _. omega arith) (λ _. omega arith))

pub estimate-still : (time : ℕ) (e : RateEstimation) → still e ≡ true
    → estimate time e ≡ record { count = 0; mean = rate e.count time; variance = e.variance }
unfolding estimate new_mean
estimate-still time e h =
    let none : e.variance ≡ 0 = eqb-true _ _ ((and-eq-true_iff (eqb e.mean 0) (eqb e.variance 0)).0 h).1 in
    let same : (3 * e.variance + apart (rate e.count time) (rate e.count time)) / 4 ≡ e.variance = omega arith in
    rw (h, same)

pub estimate-ranged : (time : ℕ) (e : RateEstimation) → Ranged e → 100_000 ≤ time → Ranged (estimate time e)
unfolding estimate
estimate-ranged time e h ht =
    let hr : rate e.count time ≤ 2 ^ 42 = rate_bound e.count time h.count ht in
    let hm : new_mean e (rate e.count time) ≤ 2 ^ 42 = new_mean_bound e (rate e.count time) h.mean hr in
    record { count = omega arith; mean = hm; variance = omega arith }

pub increment-ranged : (e : RateEstimation) (n : ℕ) → Ranged e → e.count + n ≤ 2 ^ 38 → Ranged (increment e n)
increment-ranged e n h hn = record { count = hn; mean = h.mean; variance = h.variance }

pub in_range-ranged : (e : RateEstimation) → in_range e ≡ true → Ranged e
in_range-ranged e h =
    let both = (and-eq-true_iff (leb e.count (2 ^ 38) && leb e.mean (2 ^ 42)) (leb e.variance (2 ^ 42))).0 h in
    let low = (and-eq-true_iff (leb e.count (2 ^ 38)) (leb e.mean (2 ^ 42))).0 both.0 in
    record { count = leb-true _ _ low.0; mean = leb-true _ _ low.1; variance = leb-true _ _ both.1 }

pub ranged-in_range : (e : RateEstimation) → Ranged e → in_range e ≡ true
ranged-in_range e h = simp (le-leb _ _ h.count, le-leb _ _ h.mean, le-leb _ _ h.variance)
