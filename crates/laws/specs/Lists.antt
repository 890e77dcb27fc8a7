-- A function applied to each element of a list.
--   map-append, map-drop, map-take, map-set   it can be applied before or after the operation
use Rattle.std.specs.Prelude.{◌≡◌, refl, List, [], ◌∷◌, ◌++◌, map, ℕ, zero, suc, drop, take, set}
use Rattle.std.proofs.Common.{ap}

module _ {A B : Type 0} (f : A → B) where
  pub map-append : (xs ys : List A) → map f (xs ++ ys) ≡ map f xs ++ map f ys
  map-append [] ys = refl
  map-append (x ∷ xs) ys = ap (λ (l : List B). f x ∷ l) (map-append xs ys)

  pub map-drop : (k : ℕ) (xs : List A) → drop k (map f xs) ≡ map f (drop k xs)
  map-drop zero xs = refl
  map-drop (suc k) [] = refl
  map-drop (suc k) (x ∷ xs) = map-drop k xs

  pub map-take : (k : ℕ) (xs : List A) → take k (map f xs) ≡ map f (take k xs)
  map-take zero xs = refl
  map-take (suc k) [] = refl
  map-take (suc k) (x ∷ xs) = ap (λ (l : List B). f x ∷ l) (map-take k xs)

  pub map-set : (xs : List A) (i : ℕ) (x : A) → set (map f xs) i (f x) ≡ map f (set xs i x)
  map-set [] i x = refl
  map-set (y ∷ ys) zero x = refl
  map-set (y ∷ ys) (suc i) x = ap (λ (l : List B). f y ∷ l) (map-set ys i x)
