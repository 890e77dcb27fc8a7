-- The loss list: `from` and `insert` keep it in order, and where a number on it lies. A list that ascends between two
-- numbers still does when entries below a number go, and when a number enters. By induction on the list.
use mathlib.Core.Path.{◌≡◌, refl}
use mathlib.Core.Bool.{Bool, false, true}
use mathlib.Core.List.{List, [], ◌∷◌}
use mathlib.Core.Logic.{inl, inr}
use Prim.Native.Nat.{◌<◌, ◌≤◌, max, suc, ℕ}
use native.Mathlib.Omega.{arith}
use lib.Dec.{eqb, ltb}
use borrow.Author.Tests.{eqb-false, lt-ltb, ltb-false, ltb-true}
use Rattle.laws.specs.Ascending.{Ascends, widen}
use Rattle.rules_theorems.specs.Demands.{On}
use Rattle.rules.specs.Sender.{below, from, insert}

pub from-ascends : (lo hi n : ℕ) (xs : List ℕ) → Ascends lo hi xs → Ascends (max lo n) hi (from n xs)
unfolding from
from-ascends lo hi n [] h = tt
from-ascends lo hi n (x ∷ xs) h = go (ltb x n) refl (from-ascends (suc x) hi n xs h.2)
  where
    go : (b : Bool) → ltb x n ≡ b → Ascends (max (suc x) n) hi (from n xs) → Ascends (max lo n) hi (from n (x ∷ xs))
    go true e ih = rw (e, from) (widen (from n xs) (omega (arith, ltb-true)) (omega arith) ih)
    go false e ih = rw (e, from) (omega (arith, ltb-false), h.1, widen (from n xs) (omega (arith, ltb-false)) (omega arith) ih)

pub insert-ascends : (lo hi n : ℕ) (xs : List ℕ) → lo ≤ n → n < hi → Ascends lo hi xs → Ascends lo hi (insert n xs)
unfolding insert
insert-ascends lo hi n [] p q h = (p, q, tt)
insert-ascends lo hi n (x ∷ xs) p q h = go (ltb n x) refl (eqb n x) refl (λ r. insert-ascends (suc x) hi n xs r q h.2)
  where
    go : (b : Bool) → ltb n x ≡ b → (d : Bool) → eqb n x ≡ d → (suc x ≤ n → Ascends (suc x) hi (insert n xs))
        → Ascends lo hi (insert n (x ∷ xs))
    go true e d f ih = rw (e, insert) (p, q, (omega (arith, ltb-true), h.1, h.2))
    go false e true f ih = rw (e, f, insert) h
    go false e false f ih = rw (e, f, insert) (h.0, h.1, ih (omega (arith, ltb-false, eqb-false n x f)))

pub on_above : (n lo hi : ℕ) (xs : List ℕ) → Ascends lo hi xs → On n xs → lo ≤ n
on_above n lo hi (x ∷ xs) a (inl p) = omega arith
on_above n lo hi (x ∷ xs) a (inr o) = omega (arith, on_above n (suc x) hi xs a.2 o)
on_above n lo hi [] a o = absurd o

pub on_below : (n lo hi : ℕ) (xs : List ℕ) → Ascends lo hi xs → On n xs → n < hi
on_below n lo hi (x ∷ xs) a (inl p) = omega arith
on_below n lo hi (x ∷ xs) a (inr o) = on_below n (suc x) hi xs a.2 o
on_below n lo hi [] a o = absurd o

-- ## A number on the list, and how many are smaller

pub on-from : (n m : ℕ) (xs : List ℕ) → m ≤ n → On n xs → On n (from m xs)
unfolding from
on-from n m (x ∷ xs) h o = go (ltb x m) refl o (λ o'. on-from n m xs h o')
  where
    go : (b : Bool) → ltb x m ≡ b → On n (x ∷ xs) → (On n xs → On n (from m xs)) → On n (from m (x ∷ xs))
    go true e (inl p) ih = absurd (omega (arith, ltb-true))
    go true e (inr o) ih = rw (e, from) (ih o)
    go false e (inl p) ih = rw (e, from) (inl p)
    go false e (inr o) ih = rw (e, from) (inr (ih o))
on-from n m [] h o = o

pub below-from : (n m : ℕ) (xs : List ℕ) → below n (from m xs) ≤ below n xs
unfolding from below
below-from n m [] = omega arith
below-from n m (x ∷ xs) = go (ltb x m) refl (ltb x n) refl (below-from n m xs)
  where
    go : (b : Bool) → ltb x m ≡ b → (d : Bool) → ltb x n ≡ d → below n (from m xs) ≤ below n xs
        → below n (from m (x ∷ xs)) ≤ below n (x ∷ xs)
    go true e true f ih = rw (e, f, from, below) (omega arith)
    go true e false f ih = rw (e, f, from, below) (omega arith)
    go false e true f ih = rw (e, f, from, below) (omega arith)
    go false e false f ih = rw (e, f, from, below) (omega arith)

pub on-insert : (n m : ℕ) (xs : List ℕ) → On n xs → On n (insert m xs)
unfolding insert
on-insert n m (x ∷ xs) o = go (ltb m x) refl (eqb m x) refl o (λ o'. on-insert n m xs o')
  where
    go : (b : Bool) → ltb m x ≡ b → (d : Bool) → eqb m x ≡ d → On n (x ∷ xs) → (On n xs → On n (insert m xs)) → On n (insert m (x ∷ xs))
    go true e d f o ih = rw (e, insert) (inr o)
    go false e true f o ih = rw (e, f, insert) o
    go false e false f (inl p) ih = rw (e, f, insert) (inl p)
    go false e false f (inr o) ih = rw (e, f, insert) (inr (ih o))
on-insert n m [] o = absurd o

-- n comes after the head of an ascending list, so there is one more below it
pub below_head : (n x lo hi : ℕ) (xs : List ℕ) → Ascends lo hi (x ∷ xs) → On n xs → below n (x ∷ xs) ≡ suc (below n xs)
unfolding below
below_head n x lo hi xs a o = rw (lt-ltb x n (on_above n (suc x) hi xs a.2 o), below)

-- if y is on the list and below n, the entries past y have one fewer below n
below-past : (n y : ℕ) (xs : List ℕ) → y < n → On y xs → suc (below n (from (suc y) xs)) ≤ below n xs
unfolding below from
below-past n y (x ∷ xs) h (inl e) =
    let t : ltb x (suc y) ≡ true = lt-ltb x (suc y) (omega arith) in
    let u : ltb x n ≡ true = lt-ltb x n (omega arith) in
    rw (t, u, from, below) (omega (arith, below-from n (suc y) xs))
below-past n y (x ∷ xs) h (inr o) = go (ltb x (suc y)) refl (ltb x n) refl (below-past n y xs h o)
  where
    go : (a : Bool) → ltb x (suc y) ≡ a → (b : Bool) → ltb x n ≡ b → suc (below n (from (suc y) xs)) ≤ below n xs
        → suc (below n (from (suc y) (x ∷ xs))) ≤ below n (x ∷ xs)
    go true e true f ih = rw (e, f, from, below) (omega arith)
    go true e false f ih = rw (e, f, from, below) ih
    go false e true f ih = rw (e, f, from, below) (omega arith)
    go false e false f ih = rw (e, f, from, below) ih
below-past n y [] h o = absurd o

-- an ascending list whose entries below n are all on another list has no more of them
pub below_subset : (n lo hi : ℕ) (ys xs : List ℕ) → Ascends lo hi ys → ((m : ℕ) → m < n → On m ys → On m xs) → below n ys ≤ below n xs
unfolding below
below_subset n lo hi [] xs a h = omega arith
below_subset n lo hi (y ∷ ys) xs a h =
    go (ltb y n) refl (λ (zs : List ℕ) g. below_subset n (suc y) hi ys zs a.2 g)
  where
    go : (b : Bool) → ltb y n ≡ b → ((zs : List ℕ) → ((m : ℕ) → m < n → On m ys → On m zs) → below n ys ≤ below n zs)
        → below n (y ∷ ys) ≤ below n xs
    go true e ih =
        let less : y < n = ltb-true _ _ e in
        rw (e, below)
        (omega (
          arith,
          ih (from (suc y) xs) (λ m l o. on-from m (suc y) xs (on_above m (suc y) hi ys a.2 o) (h m l (inr o))),
          below-past n y xs less (h y less (inl refl)),
        ))
    go false e ih = rw (e, below) (ih xs (λ m l o. h m l (inr o)))
