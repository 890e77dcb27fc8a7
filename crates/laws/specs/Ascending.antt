-- Lists of numbers that ascend without repeats.
--   Ascends lo hi xs   each of xs is at least lo, above the one before it, and below hi
--   widen              it still is between wider bounds
--   ascends_snoc       with a larger number at its end
--   ascends-few        it has no more numbers than there are between the bounds
use Rattle.std.specs.Prelude.{List, [], ◌∷◌, ◌++◌, ℕ, suc, ◌-◌, ◌≤◌, ◌<◌, length}
use Rattle.std.proofs.Common.{zero-le, arith}

abbrev pub Ascends : ℕ → ℕ → List ℕ → Type 0
Ascends lo hi [] = Unit {0}
Ascends lo hi (x ∷ xs) = (lo ≤ x) × (x < hi) × Ascends (suc x) hi xs

pub widen : {lo hi lo' hi' : ℕ} (xs : List ℕ) → lo' ≤ lo → hi ≤ hi' → Ascends lo hi xs → Ascends lo' hi' xs
widen [] p q h = tt
widen (x ∷ xs) p q h = (omega arith, omega arith, widen xs (omega arith) q h.2)

pub ascends_snoc : (lo hi n : ℕ) (xs : List ℕ) → lo ≤ n → n < hi → Ascends lo n xs → Ascends lo hi (xs ++ (n ∷ []))
ascends_snoc lo hi n [] p q a = (p, q, tt)
ascends_snoc lo hi n (x ∷ xs) p q a = (a.0, omega (arith, a.1), ascends_snoc (suc x) hi n xs a.1 q a.2)

pub ascends-few : (lo hi : ℕ) (xs : List ℕ) → Ascends lo hi xs → length xs ≤ hi - lo
ascends-few lo hi [] a = zero-le
ascends-few lo hi (x ∷ xs) a = omega (arith, ascends-few (suc x) hi xs a.2)
