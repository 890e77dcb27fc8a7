-- The three laws of entries in an area. The layers above use nothing else of them.
--   length-write_e   writing keeps the length
--   read_e-same      what was written is read
--   read_e-other     other slots don't change
use Rattle.std.specs.Prelude.{◌≡◌, refl, List, [], ◌∷◌, ℕ, zero, suc, ◌+◌, ◌*◌, ◌≤◌, ◌<◌, length, get_or, set}
use Rattle.std.proofs.Common.{ap, ◌∙◌, arith, length-set, get_or-set_same, get_or-set_other}
use Rattle.std.proofs.Math.Decide.{dec_lt}
use Rattle.std.proofs.Math.Arith.{lt_of_le-ne}
use Rattle.ring.specs.declared.Entry.{Entry}
use Rattle.ring.specs.Entry.{entry, words, word_of, read_e, write_from, write_e}

from-length : (xs : List ℕ) (i j : ℕ) (ws : List ℕ) → length (write_from xs i j ws) ≡ length xs
unfolding write_from
from-length xs i j [] = refl
from-length xs i j (w ∷ ws) = from-length (set xs (i + j) w) i (suc j) ws ∙ length-set xs (i + j) w

from-before : (xs : List ℕ) (i j : ℕ) (ws : List ℕ) (n : ℕ) → n < i + j → get_or (write_from xs i j ws) n 0 ≡ get_or xs n 0
unfolding write_from
from-before xs i j [] n h = refl
from-before xs i j (w ∷ ws) n h =
    from-before (set xs (i + j) w) i (suc j) ws n (omega arith) ∙ get_or-set_other xs (i + j) n w 0 (λ e. omega arith)

from-after : (xs : List ℕ) (i j : ℕ) (ws : List ℕ) (n : ℕ) → i + j + length ws ≤ n → get_or (write_from xs i j ws) n 0 ≡ get_or xs n 0
unfolding write_from
from-after xs i j [] n h = refl
from-after xs i j (w ∷ ws) n h =
    from-after (set xs (i + j) w) i (suc j) ws n (omega arith) ∙ get_or-set_other xs (i + j) n w 0 (λ e. omega arith)

from-same : (xs : List ℕ) (i j : ℕ) (ws : List ℕ) (m : ℕ) → m < length ws → i + j + length ws ≤ length xs
    → get_or (write_from xs i j ws) (i + (j + m)) 0 ≡ get_or ws m 0
unfolding write_from
from-same xs i j [] m h l = absurd (no h)
  where
    no : m < 0 → ⊥
    no q = omega arith
from-same xs i j (w ∷ ws) zero h l =
    let here : i + (j + 0) ≡ i + j = omega arith in
    ap (λ (n : ℕ). get_or (write_from (set xs (i + j) w) i (suc j) ws) n 0) here
    ∙ from-before (set xs (i + j) w) i (suc j) ws (i + j) (omega arith)
    ∙ get_or-set_same xs (i + j) w 0 (omega arith)
from-same xs i j (w ∷ ws) (suc m) h l =
    let there : i + (j + suc m) ≡ i + (suc j + m) = omega arith in
    let long : i + suc j + length ws ≤ length (set xs (i + j) w) = rw length-set (omega arith) in
    ap (λ (n : ℕ). get_or (write_from (set xs (i + j) w) i (suc j) ws) n 0) there
    ∙ from-same (set xs (i + j) w) i (suc j) ws m (omega arith) long

pub length-write_e : (xs : List ℕ) (k : ℕ) (e : Entry) → length (write_e xs k e) ≡ length xs
unfolding write_e
length-write_e xs k e = from-length xs (k * 6) 0 (words e)

entry_path : {a a' b b' c c' d d' e e' f f' : ℕ} → a ≡ a' → b ≡ b' → c ≡ c' → d ≡ d' → e ≡ e' → f ≡ f' → entry a b c d e f ≡ entry a' b' c' d' e' f'
entry_path p q r s t u = λ i. entry (p i) (q i) (r i) (s i) (t i) (u i)

pub read_e-same : (xs : List ℕ) (k : ℕ) (e : Entry) → k * 6 + 6 ≤ length xs → read_e (write_e xs k e) k ≡ e
unfolding read_e write_e
read_e-same xs k e h = entry_path (at 0 (omega arith)) (at 1 (omega arith)) (at 2 (omega arith)) (at 3 (omega arith)) (at 4 (omega arith)) (at 5 (omega arith))
  where
    at : (j : ℕ) → j < 6 → word_of (write_from xs (k * 6) 0 (words e)) k j ≡ get_or (words e) j 0
    at j p =
        let same : k * 6 + j ≡ k * 6 + (0 + j) = omega arith in
        ap (λ (n : ℕ). get_or (write_from xs (k * 6) 0 (words e)) n 0) same ∙ from-same xs (k * 6) 0 (words e) j p (omega arith)

pub read_e-other : (xs : List ℕ) (k m : ℕ) (e : Entry) → (m ≡ k → ⊥) → read_e (write_e xs k e) m ≡ read_e xs m
unfolding read_e write_e
read_e-other xs k m e n = entry_path (at 0 (omega arith)) (at 1 (omega arith)) (at 2 (omega arith)) (at 3 (omega arith)) (at 4 (omega arith)) (at 5 (omega arith))
  where
    at : (j : ℕ) → j < 6 → word_of (write_from xs (k * 6) 0 (words e)) m j ≡ word_of xs m j
    at j p = by (dec_lt m k)
      where
        by : Dec (m < k) → word_of (write_from xs (k * 6) 0 (words e)) m j ≡ word_of xs m j
        by (yes q) = from-before xs (k * 6) 0 (words e) (m * 6 + j) (omega arith)
        by (no q) = let more : k < m = lt_of_le-ne (omega arith) (λ s. n (omega arith)) in from-after xs (k * 6) 0 (words e) (m * 6 + j) (omega arith)
