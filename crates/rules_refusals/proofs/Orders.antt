-- The order of refusals as figures: it is the table from top to bottom, a refusal's place is counted in it, and the first
-- test that holds decides.
use Rattle.std.proofs.Common.{◌≡◌, refl, true, false, [], ◌∷◌, map}
use Rattle.rules_refusals.specs.Table.{number_of}
use Rattle.rules_refusals.specs.Figures.{table}
use Rattle.rules_refusals.specs.Verdict.{verdict_number}
use Rattle.rules_refusals.specs.Order.{order, place_in, place, test, first_of, none_before, in_order}
use Rattle.rules_refusals.specs.declared.Refusal.TheVariants.{BadSetting, BadStore, BadState, NoRoom, NotHeld}

pub record Orders : Type 0 where
  -- "The lowest that applies is given": they are told in the order of the table
  pub told : order ≡ map number_of table
  -- a refusal's place is counted in that list; in a list of another order a greater number may come first
  pub places : map place (BadSetting ∷ BadStore ∷ NotHeld ∷ []) ≡ 0 ∷ 1 ∷ 13 ∷ []
  pub middle : place_in 3 (1 ∷ 15 ∷ 3 ∷ []) ∷ place_in 15 (1 ∷ 15 ∷ 3 ∷ []) ∷ [] ≡ 2 ∷ 1 ∷ []
  -- the first test that holds decides
  pub first : map verdict_number
      (first_of (test true BadStore ∷ test true BadState ∷ [])
      ∷ first_of (test false BadStore ∷ test true BadState ∷ [])
      ∷ first_of (test false BadStore ∷ test false BadState ∷ [])
      ∷ [])
      ≡ 2 ∷ 3 ∷ 0 ∷ []
  -- 3 after 2 is the order of the list, also with 13 behind them; 2 after 3 is not, nor is 2 after 13
  pub in_turn : map in_order
      ((test true BadStore ∷ test true BadState ∷ test true NoRoom ∷ [])
      ∷ (test true BadState ∷ test true BadStore ∷ [])
      ∷ (test true BadStore ∷ test true NoRoom ∷ test true BadState ∷ [])
      ∷ [])
      ≡ true ∷ false ∷ false ∷ []

pub orders : Orders
unfolding order place place_in first_of none_before in_order
orders = record { told = refl; places = refl; middle = refl; first = refl; in_turn = refl }
