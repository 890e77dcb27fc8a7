-- Document 01, "Numbers and their ends": "A sequence number is 31 bits .. Each counts up and wraps to 0. Distance from
-- a to b is (b − a) modulo 2^31." In these definitions a packet's number counts up from the first sequence number
-- without wrapping, which makes order, loss list and ACK plain arithmetic: `wire` is used where a number goes out,
-- `distance` where one comes in.
--   wire n         the low 31 bits of the number n
--   distance a b   how far b lies after a, both 31-bit numbers
use Rattle.std.specs.Prelude.{ℕ, ◌+◌, ◌-◌, ◌%◌, ◌^◌}

abbrev pub wire : ℕ → ℕ
wire n = n % 2 ^ 31

unfoldable pub distance : ℕ → ℕ → ℕ
distance a b = (b + 2 ^ 31 - a) % 2 ^ 31
