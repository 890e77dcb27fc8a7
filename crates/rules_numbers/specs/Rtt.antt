-- Document 01, "Numbers and their ends": "RTT mean and variance: 0 to 100,000,000 µs each; at start 100,000 and 50,000."
--   start      the round-trip time at the start
--   in_range r mean and variance are within their ranges
--   Ranged r   the same as facts, for a proof
pub mod Examples
use Rattle.std.specs.Prelude.{Bool, ◌&&◌, ◌≤◌, leb}
use Rattle.rules_numbers.specs.declared.Rtt.{Rtt}

abbrev pub start : Rtt
start = record { mean = 100_000; variance = 50_000 }

abbrev pub in_range : Rtt → Bool
in_range r = leb r.mean 100_000_000 && leb r.variance 100_000_000

pub record Ranged (r : Rtt) : Type 0 where
  pub mean : r.mean ≤ 100_000_000
  pub variance : r.variance ≤ 100_000_000
