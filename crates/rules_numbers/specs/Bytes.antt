-- Numbers as bytes, over how many bytes there are: document 01, "Action record": "24 bytes, little-endian"; "Header": "big-endian". A number
-- that needs more bytes is cut to its low ones.
--   little w n       the w bytes of n, the lowest first
--   big w n          the same bytes, the highest first
--   from_little bs   the number that bytes stand for, the lowest first
--   from_big bs      the same, the highest first
-- What holds of them over every width stands in crate octets, Laws.
pub mod Examples
use Rattle.std.specs.Prelude.{List, [], ◌∷◌, reverse, ℕ, zero, suc, ◌+◌, ◌*◌, ◌/◌, ◌%◌}

abbrev pub little : ℕ → ℕ → List ℕ
little zero n = []
little (suc w) n = n % 256 ∷ little w (n / 256)

abbrev pub big : ℕ → ℕ → List ℕ
big w n = reverse (little w n)

abbrev pub from_little : List ℕ → ℕ
from_little [] = 0
from_little (b ∷ bs) = from_little bs * 256 + b

abbrev pub from_big : List ℕ → ℕ
from_big bs = from_little (reverse bs)
