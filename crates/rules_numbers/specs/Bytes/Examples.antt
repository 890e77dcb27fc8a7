-- Numbers and their bytes by hand, so that a wrong definition is refused.
--   ends     0, and the largest number of two, four and eight bytes
--   places   the second byte counts 256; the lowest byte stands first, or last
--   cut      a number of three bytes and more, in two
--   back     what the bytes stand for
use Rattle.std.specs.Prelude.{◌≡◌, refl, [], ◌∷◌}
use Rattle.rules_numbers.specs.Bytes.{little, big, from_little, from_big}

pub ends :
    (little 0 7 ≡ [])
    × (little 4 0 ≡ 0 ∷ 0 ∷ 0 ∷ 0 ∷ [])
    × (little 2 65_535 ≡ 255 ∷ 255 ∷ [])
    × (little 4 4_294_967_295 ≡ 255 ∷ 255 ∷ 255 ∷ 255 ∷ [])
    × (little 8 18_446_744_073_709_551_615 ≡ 255 ∷ 255 ∷ 255 ∷ 255 ∷ 255 ∷ 255 ∷ 255 ∷ 255 ∷ [])
    × (big 4 4_294_967_295 ≡ 255 ∷ 255 ∷ 255 ∷ 255 ∷ [])
ends = (refl, refl, refl, refl, refl, refl)

pub places :
    (little 2 255 ≡ 255 ∷ 0 ∷ [])
    × (little 2 256 ≡ 0 ∷ 1 ∷ [])
    × (big 2 256 ≡ 1 ∷ 0 ∷ [])
    × (little 4 0x0102_0304 ≡ 4 ∷ 3 ∷ 2 ∷ 1 ∷ [])
    × (big 4 0x0102_0304 ≡ 1 ∷ 2 ∷ 3 ∷ 4 ∷ [])
    × (little 8 0x0102_0304_0506_0708 ≡ 8 ∷ 7 ∷ 6 ∷ 5 ∷ 4 ∷ 3 ∷ 2 ∷ 1 ∷ [])
places = (refl, refl, refl, refl, refl, refl)

pub cut : (little 2 65_536 ≡ 0 ∷ 0 ∷ []) × (little 2 0x01_0203 ≡ 3 ∷ 2 ∷ []) × (big 2 0x01_0203 ≡ 2 ∷ 3 ∷ [])
cut = (refl, refl, refl)

pub back :
    (from_little [] ≡ 0)
    × (from_little (255 ∷ 0 ∷ []) ≡ 255)
    × (from_little (0 ∷ 1 ∷ []) ≡ 256)
    × (from_little (255 ∷ 255 ∷ 255 ∷ 255 ∷ []) ≡ 4_294_967_295)
    × (from_little (0xef ∷ 0xcd ∷ 0xab ∷ 0x89 ∷ 0x67 ∷ 0x45 ∷ 0x23 ∷ 0x01 ∷ []) ≡ 0x0123_4567_89ab_cdef)
    × (from_big (0 ∷ 1 ∷ []) ≡ 1)
    × (from_big (0x11 ∷ 0x22 ∷ 0x33 ∷ 0x44 ∷ []) ≡ 0x1122_3344)
back = (refl, refl, refl, refl, refl, refl, refl)
