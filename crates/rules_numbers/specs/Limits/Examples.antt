-- Each limit worked out: a thousand and twenty-four times as many, or one less.
use Rattle.std.specs.Prelude.{◌≡◌, refl, ◌+◌, ◌*◌}
use Rattle.rules_numbers.specs.Limits.{time_limit, size_most, length_most, bytes_limit, transmit_most}

pub record Examples : Type 0 where
  -- almost nine years of microseconds
  pub time : time_limit ≡ 281_474_976_710_656
  -- an Ethernet frame's 1,500 bytes less 28 of IP and UDP and 16 of SRT
  pub size : size_most + 16 + 28 ≡ 1_500
  -- a megabyte
  pub length : length_most ≡ 1_024 * 1_024
  pub bytes : bytes_limit ≡ 4_611_686_018_427_387_904
  -- what 16 bits hold
  pub transmit : transmit_most + 1 ≡ 256 * 256

pub examples : Examples
examples = record { time = refl; size = refl; length = refl; bytes = refl; transmit = refl }
