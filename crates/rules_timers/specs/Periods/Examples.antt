-- Worked examples of the periods, from the Rust's time/mod.rs. They catch errors that definition and code have in
-- common.
use Rattle.std.specs.Prelude.{◌≡◌, refl, ℕ}
use Rattle.rules_numbers.specs.declared.Rtt.{Rtt}
use Rattle.rules_numbers.specs.Rtt.{start}
use Rattle.rules_timers.specs.Periods.{nak_period, exp_period, calculate_periods}

abbrev rtt : ℕ → ℕ → Rtt
rtt mean variance = record { mean = mean; variance = variance }

pub record Examples : Type 0 where
  -- the periods at the start: 10 ms, 150 ms, 460 ms
  pub starting : calculate_periods 1 start ≡ record { ack = 10_000_000; nak = 150_000_000; exp = 460_000_000 }
  -- NAK keeps half a microsecond, and is at least 20 ms
  pub half : nak_period (rtt 40_001 0) ≡ 20_000_500
  pub least-nak : nak_period (rtt 39_999 0) ≡ 20_000_000
  -- EXP is at least count × 300 ms, and held at 10^15
  pub least-exp : exp_period 3 (rtt 0 0) ≡ 900_000_000
  pub held-exp : exp_period 4_294_967_295 (rtt 100_000_000 100_000_000) ≡ 1_000_000_000_000_000

pub examples : Examples
unfolding exp_period
examples = record { starting = refl; half = refl; least-nak = refl; least-exp = refl; held-exp = refl }
