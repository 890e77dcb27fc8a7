-- How much comes in per second, estimated for packets and for bytes in the same way. Document 01, "Pacing".
--   elapsed now next        the time that an estimate due at next covers
--   rate count time         what came in during that time, per second
--   still e                 whether mean and variance are 0
--   new_mean e rate         the mean after this rate
--   apart a b               |a − b|
--   estimate time e         the estimate after that time; the count starts again at 0
--   increment e n           n more counted
--   passes count n          whether n more would pass the most that may be counted
--   in_range e              whether an estimation keeps its book rules
--   count_most, mean_most   2^38 and 2^42
pub mod Examples
use Rattle.std.specs.Prelude.{Bool, cond, ◌&&◌, ℕ, ◌+◌, ◌-◌, ◌*◌, ◌/◌, ◌^◌, min, max, leb, ltb, eqb}
use Rattle.rules_pacing.specs.declared.RateEstimation.{RateEstimation}

-- "elapsed = 100,000 × (1 + floor((now − next) / 100,000))"
abbrev pub elapsed : ℕ → ℕ → ℕ
elapsed now next = 100_000 * (1 + (now - next) / 100_000)

-- "Rate = floor(count × 1,000,000 / elapsed)"
abbrev pub rate : ℕ → ℕ → ℕ
rate count time = count * 1_000_000 / time

abbrev pub still : RateEstimation → Bool
still e = eqb e.mean 0 && eqb e.variance 0

-- "with mean and variance 0 mean = rate, else (mean + rate) / 2 if rate is above mean, else (7 × mean + rate) / 8"
unfoldable pub new_mean : RateEstimation → ℕ → ℕ
new_mean e rate = cond (still e) rate (cond (ltb e.mean rate) ((e.mean + rate) / 2) ((7 * e.mean + rate) / 8))

abbrev pub apart : ℕ → ℕ → ℕ
apart a b = max a b - min a b

-- "then variance = (3 × variance + |new mean − rate|) / 4"; with mean and variance 0 it stays 0 (estimate-still)
unfoldable pub estimate : ℕ → RateEstimation → RateEstimation
estimate time e =
    let r = rate e.count time in
    let m = new_mean e r in
    record { count = 0; mean = m; variance = (3 * e.variance + apart m r) / 4 }

abbrev pub increment : RateEstimation → ℕ → RateEstimation
increment e n = record { count = e.count + n; mean = e.mean; variance = e.variance }

abbrev pub count_most : ℕ
count_most = 2 ^ 38

abbrev pub mean_most : ℕ
mean_most = 2 ^ 42

-- "Refusal numbers", 6: ".. pass 2^38"
abbrev pub passes : ℕ → ℕ → Bool
passes count n = ltb count_most (count + n)

-- "Book rules": "its counts at most 2^38, means and variances at most 2^42"
abbrev pub in_range : RateEstimation → Bool
in_range e = leb e.count count_most && leb e.mean mean_most && leb e.variance mean_most
