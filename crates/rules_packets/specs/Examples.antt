-- Worked examples of splitting and of the header, from document 01, "Message" and "Header". They catch errors that
-- definition and code have in common.
--   nine     nine bytes in packets of four: each packet, and one past the last
--   ends     the ends of the size and of the length
--   places   "Place bits: 10 first, 00 middle, 01 last, 11 only one."
--   fields   a 31-bit number and a 26-bit message number in the header; "the low 32 bits" of a time
use Rattle.std.specs.Prelude.{◌≡◌, refl, true, false, [], ◌∷◌, map, ◌+◌, ◌^◌, Some, None, Ok, Err}
use Rattle.rules_refusals.specs.declared.Refusal.TheVariants.{BadSetting, TooLong}
use Rattle.rules_packets.specs.declared.Place.TheVariants.{First, Middle, Last, Only}
use Rattle.rules_packets.specs.Header.{place_bits, header, stamp}
use Rattle.rules_packets.specs.Split.{count, place_of, nth, judge, split, piece}

pub nine :
    (split 4 9 ≡ Ok 3)
    × (piece 4 9 0 ≡ Ok (Some (record { place = First; start = 0; len = 4 })))
    × (piece 4 9 1 ≡ Ok (Some (record { place = Middle; start = 4; len = 4 })))
    × (piece 4 9 2 ≡ Ok (Some (record { place = Last; start = 8; len = 1 })))
    × (piece 4 9 3 ≡ Ok None)
unfolding split piece judge nth count place_of
nine = (refl, refl, refl, refl, refl)

pub ends :
    (split 1_456 1_048_576 ≡ Ok 721)
    × (split 1_456 1_048_577 ≡ Err TooLong)
    × (split 1_457 1_048_577 ≡ Err BadSetting)
    × (split 0 9 ≡ Err BadSetting)
    × (split 0 1_048_577 ≡ Err BadSetting)
    × (piece 0 9 0 ≡ Err BadSetting)
    × (piece 4 1_048_577 0 ≡ Err TooLong)
    × (piece 4 0 0 ≡ Ok (Some (record { place = Only; start = 0; len = 0 })))
    × (place_of 4 2 ≡ Middle)
    × (place_of 4 3 ≡ Last)
    × (split 1 9 ≡ Ok 9)
unfolding split piece judge nth count place_of
ends = (refl, refl, refl, refl, refl, refl, refl, refl, refl, refl, refl)

pub places : map place_bits (First ∷ Middle ∷ Last ∷ Only ∷ []) ≡ 0b10 ∷ 0b00 ∷ 0b01 ∷ 0b11 ∷ []
places = refl

pub fields :
    (header First true (2 ^ 31 + 5) (2 ^ 26 + 3) 0 0 ≡ 0 ∷ 0 ∷ 0 ∷ 5 ∷ 0x84 ∷ 0 ∷ 0 ∷ 3 ∷ 0 ∷ 0 ∷ 0 ∷ 0 ∷ 0 ∷ 0 ∷ 0 ∷ 0 ∷ [])
    × (header Last false (2 ^ 31 + (2 ^ 31 + 5)) 3 0x0102_0304 0x0506_0708 ≡ 0 ∷ 0 ∷ 0 ∷ 5 ∷ 0x40 ∷ 0 ∷ 0 ∷ 3 ∷ 1 ∷ 2 ∷ 3 ∷ 4 ∷ 5 ∷ 6 ∷ 7 ∷ 8 ∷ [])
    × (stamp (2 ^ 32 + 5) ≡ 5)
    × (stamp (2 ^ 31 + 5) ≡ 2 ^ 31 + 5)
fields = (refl, refl, refl, refl)
