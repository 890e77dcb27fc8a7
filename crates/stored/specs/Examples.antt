-- Worked examples of Stored.
use Rattle.std.specs.Prelude.{◌≡◌, refl, [], ◌∷◌}
use Rattle.stored.specs.Stored.{number}

-- the second of two numbers: it begins with the ninth byte, has eight, and the lowest stands first
number-second :
    number (9 ∷ 0 ∷ 0 ∷ 0 ∷ 0 ∷ 0 ∷ 0 ∷ 0 ∷ 0xef ∷ 0xcd ∷ 0xab ∷ 0x89 ∷ 0x67 ∷ 0x45 ∷ 0x23 ∷ 0x01 ∷ []) 8 ≡ 0x0123_4567_89ab_cdef
number-second = refl
