-- Document 01, "Refusal numbers": the number of each refusal, and what it returns, "with only what the table names".
--   number_of r    its number, from the table's first column
--   values_of r    the values returned with it: 10 "returns all three", 11 "returns both", 12 "returns the word's
--                  index"
--   Numbered r n   n is the number of r, from 1 to 14
use Rattle.std.specs.Prelude.{◌≡◌, List, [], ◌∷◌, ℕ, ◌≤◌}
use Rattle.rules_refusals.specs.declared.Refusal.{Refusal}
use Rattle.rules_refusals.specs.declared.Refusal.TheVariants.{BadSetting, BadStore, BadState, BadTime, TooLong, CountFull, BadNumber, BadRtt, Empty, InvalidAck, StaleFullAck, BadNak, NoRoom, NotHeld}

abbrev pub number_of : Refusal → ℕ
number_of BadSetting = 1
number_of BadStore = 2
number_of BadState = 3
number_of BadTime = 4
number_of TooLong = 5
number_of CountFull = 6
number_of BadNumber = 7
number_of BadRtt = 8
number_of Empty = 9
number_of (InvalidAck ack first next) = 10
number_of (StaleFullAck full expected) = 11
number_of (BadNak index) = 12
number_of NoRoom = 13
number_of NotHeld = 14

abbrev pub values_of : Refusal → List ℕ
values_of BadSetting = []
values_of BadStore = []
values_of BadState = []
values_of BadTime = []
values_of TooLong = []
values_of CountFull = []
values_of BadNumber = []
values_of BadRtt = []
values_of Empty = []
values_of (InvalidAck ack first next) = ack.0 ∷ first.0 ∷ next.0 ∷ []
values_of (StaleFullAck full expected) = full ∷ expected ∷ []
values_of (BadNak index) = index ∷ []
values_of NoRoom = []
values_of NotHeld = []

pub record Numbered (r : Refusal) (n : ℕ) : Type 0 where
  pub is : n ≡ number_of r
  pub low : 1 ≤ n
  pub high : n ≤ 14
