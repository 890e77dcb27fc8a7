-- Worked examples, computed by hand from document 01, "Pacing". They catch errors that definition and code have in
-- common.
--   estimates   above the mean; below it; a variance but no mean; after silence; mean and variance 0
--   counted     an increment
--   times       an estimate made at next, just before the next one is due, and then
--   ends        the most that may be counted and kept
use Rattle.std.specs.Prelude.{◌≡◌, refl, true, false, ℕ, ◌+◌, ◌^◌}
use Rattle.rules_pacing.specs.declared.RateEstimation.{RateEstimation}
use Rattle.rules_pacing.specs.Rate.{elapsed, new_mean, estimate, increment, passes, in_range}

abbrev est : ℕ → ℕ → ℕ → RateEstimation
est count mean variance = record { count = count; mean = mean; variance = variance }

-- (100 + 300) / 2 and (24 + |200 − 300|) / 4; (7 × 800 + 0) / 8 and |700 − 0| / 4; (0 + 40) / 2 and (24 + |20 − 40|) /
-- 4; (7 × 1 + 0) / 8; then the rate itself;
-- (3 × 1 + 87) / 4, divided once
pub estimates :
    (estimate 100_000 (est 30 100 8) ≡ est 0 200 31)
    × (estimate 100_000 (est 0 800 0) ≡ est 0 700 175)
    × (estimate 100_000 (est 4 0 8) ≡ est 0 20 11)
    × (estimate 100_000 (est 0 1 0) ≡ est 0 0 0)
    × (estimate 100_000 (est 7 0 0) ≡ est 0 70 0)
    × (estimate 100_000 (est 0 100 1) ≡ est 0 87 22)
unfolding estimate new_mean
estimates = (refl, refl, refl, refl, refl, refl)

pub counted : increment (est 2 5 6) 3 ≡ est 5 5 6
counted = refl

-- "elapsed = 100,000 × (1 + floor((now − next) / 100,000))"
pub times : (elapsed 101_000 101_000 ≡ 100_000) × (elapsed 200_999 101_000 ≡ 100_000) × (elapsed 201_000 101_000 ≡ 200_000)
times = (refl, refl, refl)

-- ".. pass 2^38"; "its counts at most 2^38, means and variances at most 2^42"
pub ends :
    (passes 1 (2 ^ 38) ≡ true)
    × (passes 0 (2 ^ 38) ≡ false)
    × (in_range (est (2 ^ 38) (2 ^ 42) (2 ^ 42)) ≡ true)
    × (in_range (est (2 ^ 38 + 1) 0 0) ≡ false)
    × (in_range (est 0 (2 ^ 42 + 1) 0) ≡ false)
    × (in_range (est 0 0 (2 ^ 42 + 1)) ≡ false)
ends = (refl, refl, refl, refl, refl, refl)
