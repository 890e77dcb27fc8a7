-- The order of refusals. Document 01, "Refusal numbers": "The lowest that applies is given". In which order refusals are
-- told is this list, and not the size of their numbers: today it is the table from top to bottom, but a number may stand
-- anywhere in it.
--   order                   the numbers of the refusals, in the order in which they are told
--   place_in n ns, place r  where a number stands in a list, from 0; where a refusal stands in the order
--   Test, test              a test of a call: whether it holds, and the refusal that it then gives
--   first_of ts             the verdict of a call's tests: the first that holds decides
--   none_before, in_order   no test's refusal stands before r in the order; the tests stand in the order
use Rattle.std.specs.Prelude.{Bool, true, cond, ◌&&◌, List, [], ◌∷◌, ℕ, suc, eqb, leb}
use Rattle.rules_refusals.specs.Table.{number_of}
use Rattle.rules_refusals.specs.Verdict.{Verdict, accepted, when}
use Rattle.rules_refusals.specs.declared.Refusal.{Refusal}

unfoldable pub order : List ℕ
order = 1 ∷ 2 ∷ 3 ∷ 4 ∷ 5 ∷ 6 ∷ 7 ∷ 8 ∷ 9 ∷ 10 ∷ 11 ∷ 12 ∷ 13 ∷ 14 ∷ []

unfoldable pub place_in : ℕ → List ℕ → ℕ
place_in n [] = 0
place_in n (m ∷ ms) = cond (eqb n m) 0 (suc (place_in n ms))

unfoldable pub place : Refusal → ℕ
place r = place_in (number_of r) order

pub record Test : Type 0 where
  pub holds : Bool
  pub refusal : Refusal

abbrev pub test : Bool → Refusal → Test
test t r = record { holds = t; refusal = r }

unfoldable pub first_of : List Test → Verdict
first_of [] = accepted
first_of (t ∷ ts) = when t.holds t.refusal (first_of ts)

unfoldable pub none_before : Refusal → List Test → Bool
none_before r [] = true
none_before r (t ∷ ts) = leb (place r) (place t.refusal) && none_before r ts

unfoldable pub in_order : List Test → Bool
in_order [] = true
in_order (t ∷ ts) = none_before t.refusal ts && in_order ts
