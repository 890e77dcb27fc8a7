-- Document 01's table of refusals, in its order, as a list: proofs/Figures computes its figures from it.
use Rattle.std.specs.Prelude.{List, [], ◌∷◌, ℕ}
use Rattle.rules_numbers.specs.declared.SeqNumber.{SeqNumber}
use Rattle.rules_refusals.specs.declared.Refusal.{Refusal}
use Rattle.rules_refusals.specs.declared.Refusal.TheVariants.{BadSetting, BadStore, BadState, BadTime, TooLong, CountFull, BadNumber, BadRtt, Empty, InvalidAck, StaleFullAck, BadNak, NoRoom, NotHeld}

abbrev pub number : ℕ → SeqNumber
number n = record { 0 = n }

abbrev pub table : List Refusal
table =
    BadSetting
    ∷ BadStore
    ∷ BadState
    ∷ BadTime
    ∷ TooLong
    ∷ CountFull
    ∷ BadNumber
    ∷ BadRtt
    ∷ Empty
    ∷ InvalidAck (number 21) (number 22) (number 23)
    ∷ StaleFullAck 24 25
    ∷ BadNak 26
    ∷ NoRoom
    ∷ NotHeld
    ∷ []
