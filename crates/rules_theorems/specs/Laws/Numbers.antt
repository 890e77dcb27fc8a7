-- What the theorems use of numbers on the wire.
--   wire-below, distance-below   both are below 2^31
--   distance-wire                the distance of two numbers less than 2^31 apart is their difference
--   wire-distance                a 31-bit number, counted on from a
--   wire_injective               two numbers less than 2^31 apart differ on the wire
--   distance-is-dist             the distance is `dist` of rules_numbers
use Rattle.std.specs.Prelude.{◌≡◌, ℕ, ◌+◌, ◌-◌, ◌%◌, ◌^◌, ◌≤◌, ◌<◌}
use Rattle.std.proofs.Common.{sym, ◌∙◌, arith, mod-lt, lit<}
use Rattle.rules_numbers.specs.Modular.{seqs, dist}
use Rattle.rules_numbers.specs.Modular.Laws.{plus-is}
use Rattle.rules_numbers.proofs.Unique.{dist_unique}
use Rattle.rules.specs.Numbers.{wire, distance}

pub wire-below : (n : ℕ) → wire n < 2 ^ 31
wire-below n = mod-lt n (lit< tt)

pub distance-below : (a b : ℕ) → distance a b < 2 ^ 31
unfolding distance
distance-below a b = mod-lt (b + 2 ^ 31 - a) (lit< tt)

pub distance-wire : (a b : ℕ) → a ≤ b → b < a + 2 ^ 31 → distance (wire a) (wire b) ≡ b - a
unfolding distance
distance-wire a b h k = omega arith

pub wire-distance : (a m : ℕ) → m < 2 ^ 31 → wire (a + distance (wire a) m) ≡ m
unfolding distance
wire-distance a m h = omega arith

pub wire_injective : (a b : ℕ) → a ≤ b → b < a + 2 ^ 31 → wire a ≡ wire b → a ≡ b
wire_injective a b h k e = omega arith

back : (a b : ℕ) → a < 2 ^ 31 → b < 2 ^ 31 → (a + distance a b) % 2 ^ 31 ≡ b
unfolding distance
back a b p q = omega arith

pub distance-is-dist : (a b : ℕ) → a < 2 ^ 31 → b < 2 ^ 31 → distance a b ≡ dist seqs a b
distance-is-dist a b p q = sym (dist_unique seqs a b (distance a b) (distance-below a b) (plus-is seqs a (distance a b) ∙ back a b p q))
