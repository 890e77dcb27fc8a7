-- Document 01's table of refusals as figures: its names, in order, have the numbers 1 to 14, and three return values.
use Rattle.std.specs.Prelude.{◌≡◌, refl, true, false, [], ◌∷◌, map, Ok, Err}
use Rattle.rules_refusals.specs.Table.{number_of, values_of}
use Rattle.rules_refusals.specs.Figures.{table}
use Rattle.rules_refusals.specs.Verdict.{accepted as taken, refused, when, answer, verdict_number}
use Rattle.rules_refusals.specs.declared.Refusal.{Refusal}
use Rattle.rules_refusals.specs.declared.Refusal.TheVariants.{BadSetting, BadStore, BadState, NotHeld}

pub record Figures : Type 0 where
  pub numbers : map number_of table ≡ 1 ∷ 2 ∷ 3 ∷ 4 ∷ 5 ∷ 6 ∷ 7 ∷ 8 ∷ 9 ∷ 10 ∷ 11 ∷ 12 ∷ 13 ∷ 14 ∷ []
  -- "with only what the table names": 10 all three, 11 both, 12 the index
  pub values : map values_of table ≡ [] ∷ [] ∷ [] ∷ [] ∷ [] ∷ [] ∷ [] ∷ [] ∷ [] ∷ (21 ∷ 22 ∷ 23 ∷ []) ∷ (24 ∷ 25 ∷ []) ∷ (26 ∷ []) ∷ [] ∷ [] ∷ []
  -- an accepted call's number is 0, which no refusal has
  pub accepted : verdict_number taken ∷ map (λ (r : Refusal). verdict_number (refused r)) (BadSetting ∷ NotHeld ∷ []) ≡ 0 ∷ 1 ∷ 14 ∷ []
  -- "The lowest that applies is given": the first test that holds decides
  pub lowest : map verdict_number
      (when true BadStore (when true BadState (Ok tt))
      ∷ when false BadStore (when true BadState (Ok tt))
      ∷ when false BadStore (when false BadState (Ok tt))
      ∷ [])
      ≡ 2 ∷ 3 ∷ 0 ∷ []
  -- a refused call gives its refusal, an accepted one its answer
  pub answers : answer number_of (Err BadState) 99 ∷ answer number_of (Ok tt) 99 ∷ [] ≡ 3 ∷ 99 ∷ []

pub figures : Figures
figures = record { numbers = refl; values = refl; accepted = refl; lowest = refl; answers = refl }
