-- What holds of numbers and their bytes (crate rules_numbers, Bytes), each law once, over the width w.
--   Bytes bs, slice-bytes                every element of bs is a byte; and so in a part of it
--   little-length, little-bytes          the w bytes of a number are w, and bytes
--   from_little-little, from_little-fits they stand for the number modulo 256^w; for the number itself, where it fits
--   little-from_little                   any bytes are those of the number that they stand for
--   from_little-below                    which is below 256^w
-- and the same with the highest byte first, each from its like: big-length, big-bytes, from_big-big, from_big-fits, big-from_big, from_big-below.
-- A number read byte by byte, from its highest byte down; no code reads one so now (`from_le_bytes` reads it, see below):
--   Read bs at e i n                     n is the number of the bytes from i up to e, of those from `at` up to e
--   read_none, read_more                 of none it is 0; the byte before them makes it 256 times as much, and adds itself
--   read_all                             of all of them it is the number asked for
--   read_below                           of w bytes at most it is below 256^w
-- What the library's methods say of the same bytes:
--   to_le-little, to_be-big              `to_le_bytes` and `to_be_bytes` write them
--   from_le-from_little                  `from_le_bytes` reads them
--   from_le-padded                       and reads fewer of them, with zeros behind
use Rattle.std.specs.Prelude.{◌≡◌, refl, ℕ, zero, suc, ◌+◌, ◌-◌, ◌*◌, ◌/◌, ◌%◌, ◌^◌, ◌≤◌, ◌<◌, length, take, drop, get_or, slice_index, replicate}
use Rattle.std.specs.Int.{Width, byte_len, byte_at, byte_worth, bytes_low_first, bytes_high_first, sum_through, to_le_bytes, to_be_bytes, from_le_bytes}
use Rattle.std.proofs.Common.{sym, ap, ◌∙◌, arith, mod-lt, mod-eq_of_lt, pow-suc, lt_of_lt_of_le, lit<, mul_comm, mul_assoc, mul-one, zero-mul, zero-add, length-append, get_or-drop}
use native.Mathlib.Nat.{div-one, div-div-eq-div-mul}
use mathlib.Core.List.{List, [], ◌∷◌, ◌++◌, reverse, reverse_aux, reverse-reverse, reverse-append}
use Rattle.std.proofs.Math.Nat.{mod-one, one-le-pow, pow-le-pow_right}
use Rattle.std.proofs.Math.Arith.{digits_lt, digits_div, digits_mod, mod-mul}
use Rattle.std.proofs.lemmas.List.{length-reverse, take_all, length-replicate, drop-replicate}
use Rattle.std.proofs.Math.Seq.{slice, slice_empty, slice-cons, length-slice}
use Rattle.rules_numbers.specs.Bytes.{little, big, from_little, from_big}

abbrev pub Bytes : List ℕ → Type 0
Bytes bs = (i : ℕ) → get_or bs i 0 < 256

pub little-length : (w n : ℕ) → length (little w n) ≡ w
little-length zero n = refl
little-length (suc w) n = ap suc (little-length w (n / 256))

pub little-bytes : (w n : ℕ) → Bytes (little w n)
little-bytes zero n i = lit< tt
little-bytes (suc w) n zero = mod-lt n (lit< tt)
little-bytes (suc w) n (suc i) = little-bytes w (n / 256) i

pub from_little-little : (w n : ℕ) → from_little (little w n) ≡ n % 256 ^ w
from_little-little zero n = sym (mod-one n)
from_little-little (suc w) n =
    ap (λ (k : ℕ). k * 256 + n % 256) (from_little-little w (n / 256))
    ∙ sym (mod-mul n {m = 256 ^ w} {c = 256} (one-le-pow w 256 (lit< tt)) (lit< tt))
    ∙ ap (λ (m : ℕ). n % m) (sym (pow-suc 256 w))

pub from_little-fits : (w n : ℕ) → n < 256 ^ w → from_little (little w n) ≡ n
from_little-fits w n h = from_little-little w n ∙ mod-eq_of_lt h

pub little-from_little : (bs : List ℕ) → Bytes bs → little (length bs) (from_little bs) ≡ bs
little-from_little [] h = refl
little-from_little (b ∷ bs) h =
    rw (digits_mod (from_little bs) (h 0), digits_div (from_little bs) (h 0), little-from_little bs (λ i. h (suc i)))

pub from_little-below : (bs : List ℕ) → Bytes bs → from_little bs < 256 ^ length bs
from_little-below [] h = lit< tt
from_little-below (b ∷ bs) h = rw (pow-suc 256 (length bs)) (digits_lt (from_little-below bs (λ i. h (suc i))) (h 0))

-- the elements of a list put before those of another, turned round
turned-bytes : (bs cs : List ℕ) → Bytes bs → Bytes cs → Bytes (reverse_aux bs cs)
turned-bytes [] cs h k = k
turned-bytes (b ∷ bs) cs h k = turned-bytes bs (b ∷ cs) (λ i. h (suc i)) one_more
  where
    one_more : Bytes (b ∷ cs)
    one_more zero = h 0
    one_more (suc i) = k i

reverse-bytes : (bs : List ℕ) → Bytes bs → Bytes (reverse bs)
reverse-bytes bs h = turned-bytes bs [] h (λ i. lit< tt)

pub big-length : (w n : ℕ) → length (big w n) ≡ w
big-length w n = length-reverse (little w n) ∙ little-length w n

pub big-bytes : (w n : ℕ) → Bytes (big w n)
big-bytes w n = reverse-bytes (little w n) (little-bytes w n)

pub from_big-big : (w n : ℕ) → from_big (big w n) ≡ n % 256 ^ w
from_big-big w n = ap from_little (reverse-reverse (little w n)) ∙ from_little-little w n

pub from_big-fits : (w n : ℕ) → n < 256 ^ w → from_big (big w n) ≡ n
from_big-fits w n h = from_big-big w n ∙ mod-eq_of_lt h

pub big-from_big : (bs : List ℕ) → Bytes bs → big (length bs) (from_big bs) ≡ bs
big-from_big bs h =
    ap (λ (w : ℕ). reverse (little w (from_little (reverse bs)))) (sym (length-reverse bs))
    ∙ ap reverse (little-from_little (reverse bs) (reverse-bytes bs h))
    ∙ reverse-reverse bs

pub from_big-below : (bs : List ℕ) → Bytes bs → from_big bs < 256 ^ length bs
from_big-below bs h = rw (← length-reverse bs) (from_little-below (reverse bs) (reverse-bytes bs h))

take-bytes : (e : ℕ) (bs : List ℕ) → Bytes bs → Bytes (take e bs)
take-bytes zero bs h i = lit< tt
take-bytes (suc e) [] h i = lit< tt
take-bytes (suc e) (b ∷ bs) h zero = h 0
take-bytes (suc e) (b ∷ bs) h (suc i) = take-bytes e bs (λ j. h (suc j)) i

pub slice-bytes : (a e : ℕ) (bs : List ℕ) → Bytes bs → Bytes (slice a e bs)
slice-bytes a e bs h j = rw (get_or-drop a (take e bs) j 0) (take-bytes e bs h (a + j))

pub record Read (bs : List ℕ) (at e i n : ℕ) : Type 0 where
  pub low : at ≤ i
  pub high : i ≤ e
  pub is : n ≡ from_little (slice i e bs)

pub read_none : (bs : List ℕ) (at e : ℕ) → at ≤ e → Read bs at e e 0
read_none bs at e h = record { low = h; high = omega arith; is = ap from_little (sym (slice_empty e bs)) }

pub read_more : (bs : List ℕ) (at e i n b : ℕ) → Read bs at e i n → at < i → e ≤ length bs → b ≡ get_or bs (i - 1) 0 → Read bs at e (i - 1) (n * 256 + b)
read_more bs at e i n b r h k q =
    let next : suc (i - 1) ≡ i = omega arith in
    let more = ap (λ (j : ℕ). from_little (slice j e bs) * 256 + get_or bs (i - 1) 0) (sym next) in
    let one = ap from_little (slice-cons (i - 1) e bs 0 (omega arith) k) in
    record { low = omega arith; high = omega arith; is = rw (r.is, q) (more ∙ sym one) }

pub read_all : (bs : List ℕ) (at e i n : ℕ) → Read bs at e i n → i ≤ at → n ≡ from_little (slice at e bs)
read_all bs at e i n r h = let all : i ≡ at = omega arith in r.is ∙ ap (λ (j : ℕ). from_little (slice j e bs)) all

pub read_below : (bs : List ℕ) (at e i n w : ℕ) → Read bs at e i n → Bytes bs → e ≤ length bs → e ≤ i + w → n < 256 ^ w
read_below bs at e i n w r h k l =
    let few : length (slice i e bs) ≤ w = rw (length-slice i e bs k) (omega arith) in
    rw r.is (lt_of_lt_of_le (from_little-below (slice i e bs) (slice-bytes i e bs h)) (pow-le-pow_right (lit< tt) few))

-- byte i of a number, as the library counts it
byte-at : (i n : ℕ) → byte_at i n ≡ n / 256 ^ i % 256
byte-at zero n = ap (λ (k : ℕ). k % 256) (sym (div-one n))
byte-at (suc i) n = refl

next-byte : (i n : ℕ) → n / 256 ^ suc i ≡ n / 256 ^ i / 256
next-byte i n = ap (λ (k : ℕ). n / k) (pow-suc 256 i) ∙ sym (div-div-eq-div-mul n (256 ^ i) 256)

low-little : (i k n : ℕ) → bytes_low_first i k n ≡ little k (n / 256 ^ i)
low-little i zero n = refl
low-little i (suc k) n = rw (byte-at i n, low-little (suc i) k n, next-byte i n)

pub to_le-little : (w : Width) (n : ℕ) → to_le_bytes w n ≡ little (byte_len w) n
to_le-little w n = low-little 0 (byte_len w) n ∙ ap (little (byte_len w)) (div-one n)

-- the highest byte, behind the others
little-last : (k n : ℕ) → little (suc k) n ≡ little k n ++ (n / 256 ^ k % 256) ∷ []
little-last zero n = ap (λ (m : ℕ). m % 256 ∷ []) (sym (div-one n))
little-last (suc k) n =
    ap (λ (bs : List ℕ). n % 256 ∷ bs)
    (little-last k (n / 256) ∙ ap (λ (m : ℕ). little k (n / 256) ++ m % 256 ∷ []) (turned k n))
  where
    turned : (k n : ℕ) → n / 256 / 256 ^ k ≡ n / 256 ^ suc k
    turned k n = div-div-eq-div-mul n 256 (256 ^ k) ∙ ap (λ (m : ℕ). n / m) (mul_comm 256 (256 ^ k) ∙ sym (pow-suc 256 k))

high-big : (k n : ℕ) → bytes_high_first k n ≡ big k n
high-big zero n = refl
high-big (suc k) n =
    ap (λ (b : ℕ). b ∷ bytes_high_first k n) (byte-at k n)
    ∙ ap (λ (bs : List ℕ). n / 256 ^ k % 256 ∷ bs) (high-big k n)
    ∙ sym (ap reverse (little-last k n) ∙ reverse-append (little k n) (n / 256 ^ k % 256 ∷ []))

pub to_be-big : (w : Width) (n : ℕ) → to_be_bytes w n ≡ big (byte_len w) n
to_be-big w n = high-big (byte_len w) n

worth : (i b : ℕ) → byte_worth i b ≡ b * 256 ^ i
worth zero b = sym (mul-one b)
worth (suc i) b = refl

worth_more : (i b : ℕ) → byte_worth i b * 256 ≡ byte_worth (suc i) b
worth_more i b = ap (λ (n : ℕ). n * 256) (worth i b) ∙ mul_assoc b (256 ^ i) 256 ∙ ap (λ (n : ℕ). b * n) (sym (pow-suc 256 i))

one_more : (bs : List ℕ) (k : ℕ) → from_little (take (suc k) bs) ≡ from_little (take k bs) + byte_worth k (get_or bs k 0)
one_more [] zero = refl
one_more [] (suc k) = omega (arith, zero-mul (256 ^ suc k))
one_more (b ∷ bs) zero = refl
one_more (b ∷ bs) (suc k) = omega (arith, one_more bs k, worth_more k (get_or bs k 0))

summed : (bs : List ℕ) (k : ℕ) → sum_through (λ i. byte_worth i (slice_index bs i)) k ≡ from_little (take (suc k) bs)
summed bs zero = sym (one_more bs zero ∙ zero-add (get_or bs 0 0))
summed bs (suc k) = ap (λ (n : ℕ). n + byte_worth (suc k) (get_or bs (suc k) 0)) (summed bs k) ∙ sym (one_more bs (suc k))

pub from_le-from_little : (w : Width) (bs : List ℕ) → length bs ≡ byte_len w → 1 ≤ byte_len w → from_le_bytes w bs ≡ from_little bs
from_le-from_little w bs l h = summed bs (byte_len w - 1) ∙ ap from_little (take_all (suc (byte_len w - 1)) bs (omega arith))

zeros : (k : ℕ) → from_little (replicate k 0) ≡ 0
zeros zero = refl
zeros (suc k) = ap (λ (n : ℕ). n * 256 + 0) (zeros k)

-- zeros behind the highest byte add nothing
padded : (bs : List ℕ) (k : ℕ) → from_little (bs ++ replicate k 0) ≡ from_little bs
padded [] k = zeros k
padded (b ∷ bs) k = ap (λ (n : ℕ). n * 256 + b) (padded bs k)

pub from_le-padded : (w : Width) (bs : List ℕ) → length bs ≤ byte_len w → 1 ≤ byte_len w
    → from_le_bytes w (bs ++ drop (length bs) (replicate (byte_len w) 0)) ≡ from_little bs
from_le-padded w bs l h =
    let k = byte_len w - length bs in
    let long : length (bs ++ replicate k 0) ≡ byte_len w = simp (length-append, length-replicate) (omega arith) in
    rw (drop-replicate {X = ℕ} (length bs) (byte_len w) 0) (from_le-from_little w (bs ++ replicate k 0) long h ∙ padded bs k)
