-- The figures of document 01, "Figures from the bench", that are marked * and concern splitting and the header, in one
-- table computed from the definitions.
use Rattle.std.specs.Prelude.{◌≡◌, refl, true, false, [], ◌∷◌}
use Rattle.rules_packets.specs.declared.Place.TheVariants.{Only}
use Rattle.rules_packets.specs.Header.{place_bits, header}
use Rattle.rules_packets.specs.Split.{count, place_of}

pub record Figures : Type 0 where
  -- "Size 4: lengths 0 and 4 give one packet (place 11); 5 and 8 give two."
  pub none : count 4 0 ≡ 1
  pub none-place : place_bits (place_of (count 4 0) 0) ≡ 0b11
  pub four : count 4 4 ≡ 1
  pub four-place : place_bits (place_of (count 4 4) 0) ≡ 0b11
  pub five : count 4 5 ≡ 2
  pub eight : count 4 8 ≡ 2
  -- "Number 5, only packet of message 0, stamp 1,000, id 0x11223344: 00000005 C0000000 000003E8 11223344"
  pub sent : header Only false 5 0 1_000 0x1122_3344
      ≡ 0x00 ∷ 0x00 ∷ 0x00 ∷ 0x05 ∷ 0xC0 ∷ 0x00 ∷ 0x00 ∷ 0x00 ∷ 0x00 ∷ 0x00 ∷ 0x03 ∷ 0xE8 ∷ 0x11 ∷ 0x22 ∷ 0x33 ∷ 0x44 ∷ []
  -- "resent, second word C4000000"
  pub resent : header Only true 5 0 1_000 0x1122_3344
      ≡ 0x00 ∷ 0x00 ∷ 0x00 ∷ 0x05 ∷ 0xC4 ∷ 0x00 ∷ 0x00 ∷ 0x00 ∷ 0x00 ∷ 0x00 ∷ 0x03 ∷ 0xE8 ∷ 0x11 ∷ 0x22 ∷ 0x33 ∷ 0x44 ∷ []

pub figures : Figures
unfolding count place_of
figures = record { none = refl; none-place = refl; four = refl; four-place = refl; five = refl; eight = refl; sent = refl; resent = refl }
