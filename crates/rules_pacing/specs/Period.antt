-- The period between two packets, from the rates. Document 01, "Pacing": "measured, byte rate and packet rate are the
-- new means."
--   with_overhead rate overhead    the rate plus so many percent
--   allowed mode measured          how many bytes per second may be sent
--   period allowed bytes packets   the period in microseconds, given bytes and packets per second
--   mode_in_range mode             whether its rates and overhead are in range
use Rattle.std.specs.Prelude.{Bool, true, cond, ◌&&◌, ◌||◌, ℕ, ◌+◌, ◌*◌, ◌/◌, ◌^◌, min, max, leb, eqb}
use Rattle.rules_pacing.specs.declared.LiveBandwidthMode.{LiveBandwidthMode}
use Rattle.rules_pacing.specs.declared.LiveBandwidthMode.TheVariants.{Input, Estimated, Max, Unlimited}

-- "times (100 + overhead) / 100 rounded down"
abbrev pub with_overhead : ℕ → ℕ → ℕ
with_overhead rate overhead = rate * (100 + overhead) / 100

-- "Allowed rate: the set rate or max(expected, measured), times ..; or the maximum; or 125,000,000."
abbrev pub allowed : LiveBandwidthMode → ℕ → ℕ
allowed (Input rate overhead) measured = with_overhead rate overhead
allowed (Estimated expected overhead) measured = with_overhead (max expected measured) overhead
allowed (Max rate) measured = rate
allowed Unlimited measured = 125_000_000

-- "Period = floor(1,000,000 × floor(byte rate / packet rate) / allowed), held at 10^12 µs; 1 µs where that is 0 or a
-- divisor is 0."
unfoldable pub period : ℕ → ℕ → ℕ → ℕ
period allowed bytes packets =
    cond (eqb packets 0 || eqb allowed 0) 1 (max 1 (min (10 ^ 12) (1_000_000 * (bytes / packets) / allowed)))

-- "Rates to 2^40, overhead to 10,000."
abbrev pub mode_in_range : LiveBandwidthMode → Bool
mode_in_range (Input rate overhead) = leb rate (2 ^ 40) && leb overhead 10_000
mode_in_range (Estimated expected overhead) = leb expected (2 ^ 40) && leb overhead 10_000
mode_in_range (Max rate) = leb rate (2 ^ 40)
mode_in_range Unlimited = true
