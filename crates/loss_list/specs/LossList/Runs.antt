-- The loss list of the rules, and a run of numbers entered in one piece: after the numbers below it, before those
-- above.
--   nearer n xs                    the numbers of xs up to the first that is not below n
--   run n k xs                     those, and the k numbers from n on
--   from_all, from-from            if none is below n, all stay; removing twice is removing by the higher bound
--   nearer-from                    an ascending list is its part below n followed by its part from n on
--   entered-run                    what the rules enter number by number, entered in one piece
--   entered-longer                 no list becomes shorter
use Rattle.std.specs.Prelude.{◌≡◌, refl, Bool, true, false, cond, List, [], ◌∷◌, ◌++◌, ℕ, zero, suc, ◌+◌, ◌≤◌, ◌<◌, ltb, eqb, length}
use Rattle.std.proofs.Common.{sym, ap, ◌∙◌, zero-le, suc-le-suc, arith, lt-ltb, le-ltb, ltb-true, ltb-false, eq-eqb, ne_eqb}
use Rattle.std.proofs.Math.Decide.{dec_lt}
use Rattle.std.proofs.Math.Seq.{append_snoc}
use Rattle.laws.specs.Ascending.{Ascends, ascends_snoc}
use Rattle.rules.specs.Sender as rules
use Rattle.rules.specs.Losses as losses

unfoldable pub nearer : ℕ → List ℕ → List ℕ
nearer n [] = []
nearer n (x ∷ xs) = cond (ltb x n) (x ∷ nearer n xs) []

unfoldable pub run : ℕ → ℕ → List ℕ → List ℕ
run n zero lost = nearer n lost
run n (suc k) lost = run n k lost ++ ((n + k) ∷ [])

-- ## What stays

pub from_all : (n lo hi : ℕ) (xs : List ℕ) → n ≤ lo → Ascends lo hi xs → rules.from n xs ≡ xs
unfolding rules.from
from_all n lo hi [] h a = refl
from_all n lo hi (x ∷ xs) h a = rw (le-ltb x n (omega (arith, a.0))) (ap (λ (l : List ℕ). x ∷ l) (from_all n (suc x) hi xs (omega (arith, a.0)) a.2))

pub from-from : (n k : ℕ) (xs : List ℕ) → rules.from (n + k) (rules.from n xs) ≡ rules.from (n + k) xs
unfolding rules.from
from-from n k [] = refl
from-from n k (x ∷ xs) = go (dec_lt x n) (from-from n k xs)
  where
    go : Dec (x < n) → rules.from (n + k) (rules.from n xs) ≡ rules.from (n + k) xs → rules.from (n + k) (rules.from n (x ∷ xs)) ≡ rules.from (n + k) (x ∷ xs)
    go (yes l) ih = rw (lt-ltb x n l, lt-ltb x (n + k) (omega arith)) ih
    go (no l) ih = rw (le-ltb x n (omega arith), ih)

pub nearer-from : (lo hi n : ℕ) (xs : List ℕ) → Ascends lo hi xs → xs ≡ nearer n xs ++ rules.from n xs
unfolding nearer rules.from
nearer-from lo hi n [] a = refl
nearer-from lo hi n (x ∷ xs) a = go (ltb x n) refl (nearer-from (suc x) hi n xs a.2)
  where
    go : (b : Bool) → ltb x n ≡ b → xs ≡ nearer n xs ++ rules.from n xs
        → x ∷ xs ≡ cond b (x ∷ nearer n xs) [] ++ cond b (rules.from n xs) (x ∷ rules.from n xs)
    go true e ih = ap (λ (l : List ℕ). x ∷ l) ih
    go false e ih = let h = ltb-false x n e in ap (λ (l : List ℕ). x ∷ l) (sym (from_all n (suc x) hi xs (omega arith) a.2))

nearer-ascends : (lo hi n : ℕ) (xs : List ℕ) → Ascends lo hi xs → Ascends lo n (nearer n xs)
unfolding nearer
nearer-ascends lo hi n [] a = tt
nearer-ascends lo hi n (x ∷ xs) a = go (ltb x n) refl (nearer-ascends (suc x) hi n xs a.2)
  where
    go : (b : Bool) → ltb x n ≡ b → Ascends (suc x) n (nearer n xs) → Ascends lo n (cond b (x ∷ nearer n xs) [])
    go true e ih = (a.0, ltb-true x n e, ih)
    go false e ih = tt

-- ## Order

run-ascends : (lo hi n k : ℕ) (lost : List ℕ) → lo ≤ n → Ascends lo hi lost → Ascends lo (n + k) (run n k lost)
unfolding run
run-ascends lo hi n zero lost h a = let e : n + 0 ≡ n = omega arith in rw e (nearer-ascends lo hi n lost a)
run-ascends lo hi n (suc k) lost h a = ascends_snoc lo (n + suc k) (n + k) (run n k lost) (omega arith) (omega arith) (run-ascends lo hi n k lost h a)

-- ## Entering

-- n enters after the numbers below it, before those above
insert-past : (lo n : ℕ) (xs ys : List ℕ) → Ascends lo n xs → rules.insert n (xs ++ ys) ≡ xs ++ rules.insert n ys
unfolding rules.insert
insert-past lo n [] ys a = refl
insert-past lo n (x ∷ xs) ys a =
    rw (le-ltb n x (omega (arith, a.1)), ne_eqb n x (λ e. omega (arith, a.1))) (ap (λ (l : List ℕ). x ∷ l) (insert-past (suc x) n xs ys a.2))

insert-from : (lo hi n : ℕ) (xs : List ℕ) → Ascends lo hi xs → rules.insert n (rules.from n xs) ≡ n ∷ rules.from (suc n) xs
unfolding rules.insert rules.from
insert-from lo hi n [] a = refl
insert-from lo hi n (x ∷ xs) a = go (dec_lt x n) (insert-from (suc x) hi n xs a.2)
  where
    go : Dec (x < n) → rules.insert n (rules.from n xs) ≡ n ∷ rules.from (suc n) xs → rules.insert n (rules.from n (x ∷ xs)) ≡ n ∷ rules.from (suc n) (x ∷ xs)
    go (yes l) ih = rw (lt-ltb x n l, lt-ltb x (suc n) (omega arith)) ih
    go (no l) ih =
        rw (le-ltb x n (omega arith), from_all n (suc x) hi xs (omega arith) a.2, from_all (suc n) (suc x) hi xs (omega arith) a.2) (there (dec_lt n x))
      where
        there : Dec (n < x) → rules.insert n (x ∷ xs) ≡ n ∷ cond (ltb x (suc n)) xs (x ∷ xs)
        there (yes m) = rw (lt-ltb n x m, le-ltb x (suc n) (omega arith))
        there (no m) = let e : n ≡ x = omega arith in rw (le-ltb n x (omega arith), eq-eqb n x e, lt-ltb x (suc n) (omega arith), e)

-- the rules enter a run from its first number on; the last number can as well be entered last
entered-last : (n k : ℕ) (lost : List ℕ) → losses.entered n (suc k) lost ≡ rules.insert (n + k) (losses.entered n k lost)
unfolding losses.entered
entered-last n zero lost = let e : n + 0 ≡ n = omega arith in rw e
entered-last n (suc k) lost =
    let e : suc n + k ≡ n + suc k = omega arith in
    entered-last (suc n) k (rules.insert n lost) ∙ ap (λ (m : ℕ). rules.insert m (losses.entered (suc n) k (rules.insert n lost))) e

pub entered-run : (lo hi n k : ℕ) (lost : List ℕ) → lo ≤ n → Ascends lo hi lost → losses.entered n k lost ≡ run n k lost ++ rules.from (n + k) lost
unfolding run losses.entered
entered-run lo hi n zero lost h a = let e : n + 0 ≡ n = omega arith in rw e (nearer-from lo hi n lost a)
entered-run lo hi n (suc k) lost h a =
    let e : n + suc k ≡ suc (n + k) = omega arith in
    entered-last n k lost
    ∙ ap (rules.insert (n + k)) (entered-run lo hi n k lost h a)
    ∙ insert-past lo (n + k) (run n k lost) (rules.from (n + k) lost) (run-ascends lo hi n k lost h a)
    ∙ ap (λ (l : List ℕ). run n k lost ++ l) (insert-from lo hi (n + k) lost a)
    ∙ rw e (sym (append_snoc (run n k lost) (n + k) (rules.from (suc (n + k)) lost)))

insert-longer : (n : ℕ) (xs : List ℕ) → length xs ≤ length (rules.insert n xs)
unfolding rules.insert
insert-longer n [] = zero-le
insert-longer n (x ∷ xs) = go (ltb n x) (eqb n x) (insert-longer n xs)
  where
    go : (a b : Bool) → length xs ≤ length (rules.insert n xs) → suc (length xs) ≤ length (cond a (n ∷ x ∷ xs) (cond b (x ∷ xs) (x ∷ rules.insert n xs)))
    go true b h = omega arith
    go false true h = omega arith
    go false false h = suc-le-suc h

pub entered-longer : (n k : ℕ) (xs : List ℕ) → length xs ≤ length (losses.entered n k xs)
unfolding losses.entered
entered-longer n zero xs = omega arith
entered-longer n (suc k) xs = omega (arith, insert-longer n xs, entered-longer (suc n) k (rules.insert n xs))
