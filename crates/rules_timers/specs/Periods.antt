-- The periods that follow from an RTT. Document 01, "Timers": "RTT periods .. are as `calculate_periods` ..; EXP is
-- held at 10^15". They follow the Rust's code, not its comments; its durations are nanoseconds, so halves count.
--   ns n                    n microseconds in nanoseconds
--   nak_period r            max((mean + 4 × variance) / 2, 20 ms)
--   exp_period count r      max(count × (4 × mean + variance + 10 ms), count × 300 ms), held at 10^15
--   calculate_periods n r   all three: ACK is always 10 ms
pub mod Examples
use Rattle.std.specs.Prelude.{ℕ, ◌+◌, ◌*◌, ◌/◌, min, max}
use Rattle.rules_numbers.specs.declared.Rtt.{Rtt}
use Rattle.rules_timers.specs.declared.Periods.{Periods}
use Rattle.rules_timers.specs.Timer.{longest}

abbrev pub ns : ℕ → ℕ
ns n = n * 1_000

abbrev pub nak_period : Rtt → ℕ
nak_period r = max ((ns r.mean + 4 * ns r.variance) / 2) 20_000_000

unfoldable pub exp_period : ℕ → Rtt → ℕ
exp_period count r = min longest (max (count * (4 * ns r.mean + ns r.variance + 10_000_000)) (count * 300_000_000))

abbrev pub calculate_periods : ℕ → Rtt → Periods
calculate_periods count r = record { ack = 10_000_000; nak = nak_period r; exp = exp_period count r }
