-- Numbers that wrap. Document 01, "Numbers and their ends": "A sequence number is 31 bits, a message number 26 .. Each counts up and
-- wraps to 0. Distance from a to b is (b − a) modulo 2^31." Said once for both kinds, over how many numbers there are.
--   seqs, msgs   how many sequence numbers and how many message numbers there are
--   plus m a k   the number k after a, of m numbers; plus m a 1 is the next one
--   dist m a b   how far b lies after a, of m numbers: b − a, with m added so that it does not fall below 0
-- plus and dist are shut: a layer above cites Modular.Laws.
pub mod Examples
pub mod Laws
use Rattle.std.specs.Prelude.{ℕ, ◌+◌, ◌-◌, ◌%◌, ◌^◌}

abbrev pub seqs : ℕ
seqs = 2 ^ 31

abbrev pub msgs : ℕ
msgs = 2 ^ 26

pub plus : ℕ → ℕ → ℕ → ℕ
plus m a k = (a + k) % m

pub dist : ℕ → ℕ → ℕ → ℕ
dist m a b = (b + (m - a % m)) % m
