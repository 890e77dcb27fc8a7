-- Choosing by a test, as in every definition with a refusal: `cond test refused (.. rest ..)`, the lowest number first.
--   cond-true, cond-false   what is chosen, given the result of the test
--   cond-by                 what holds of both, each under the result of the test that chooses it, holds of the choice
use Rattle.std.specs.Prelude.{◌≡◌, refl, Bool, true, false, cond}
use Rattle.std.proofs.Common.{ap}

pub cond-true : {A : Type 0} (x y : A) {t : Bool} → t ≡ true → cond t x y ≡ x
cond-true x y e = ap (λ (t : Bool). cond t x y) e

pub cond-false : {A : Type 0} (x y : A) {t : Bool} → t ≡ false → cond t x y ≡ y
cond-false x y e = ap (λ (t : Bool). cond t x y) e

pub cond-by : {A : Type 0} (P : A → Type 0) (t : Bool) (x y : A) → (t ≡ true → P x) → (t ≡ false → P y) → P (cond t x y)
cond-by P true x y f g = f refl
cond-by P false x y f g = g refl
