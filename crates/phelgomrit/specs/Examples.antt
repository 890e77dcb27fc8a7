-- The meaning of each number of a place, computed from the definitions. This catches errors that definition and code
-- have in common.
use Rattle.std.specs.Prelude.{◌≡◌, refl, [], ◌∷◌, map, ℕ}
use Rattle.rules_packets.specs.Header.{place_bits}
use Rattle.phelgomrit.specs.Packet.{place_of}

pub record Examples : Type 0 where
  -- the bits of a place are its number; of a larger number, the low two bits count
  pub places : map (λ (n : ℕ). place_bits (place_of n)) (0 ∷ 1 ∷ 2 ∷ 3 ∷ 4 ∷ 5 ∷ 6 ∷ 7 ∷ []) ≡ 0 ∷ 1 ∷ 2 ∷ 3 ∷ 0 ∷ 1 ∷ 2 ∷ 3 ∷ []

pub examples : Examples
unfolding place_of
examples = record { places = refl }
