-- Document 01's figures of a round-trip time, computed: the ends of the range, and the start, by "Start RTT: C = 320,000" with
-- "C = mean + 4 × variance + 20,000".
use Rattle.std.specs.Prelude.{◌≡◌, refl, true, false, ◌+◌, ◌*◌}
use Rattle.rules_numbers.specs.Rtt.{start, in_range}

pub record Examples : Type 0 where
  pub starting : start.mean + 4 * start.variance + 20_000 ≡ 320_000
  pub start-mean : start.mean ≡ 100_000
  pub most : in_range (record { mean = 100_000_000; variance = 100_000_000 }) ≡ true
  pub more-mean : in_range (record { mean = 100_000_001; variance = 0 }) ≡ false
  pub more-variance : in_range (record { mean = 0; variance = 100_000_001 }) ≡ false

pub examples : Examples
examples = record { starting = refl; start-mean = refl; most = refl; more-mean = refl; more-variance = refl }
