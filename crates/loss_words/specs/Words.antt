-- The words of a loss report, read at an index. Document 01, "Loss words" (the draft, Appendix A): "A word with top bit
-- 0 is one number; top bit 1 opens a range whose next word, top bit 0, is its inclusive last. Distance first to last
-- must be below 2^30." Row 12 of "Refusal numbers": "loss words malformed or over 512 words; returns the word's index".
--   step ws         what comes first in ws: one step of `parse` of the rules
--   step_at ws at   what is at index `at`
--   width_of s      how many words it takes; 0 if it is not an item
--   item_of s       its item; a single number is its own first and last
--   judged w        the answer to a report: how many items, or refusal 12 with the index of the first word of the first
--                   bad one
pub mod Laws
use Rattle.std.specs.Prelude.{cond, List, [], ◌∷◌, ℕ, ◌-◌, ◌^◌, ltb, length, drop, Result, Ok, Err}
use Rattle.rules_refusals.specs.declared.Refusal.{Refusal}
use Rattle.rules_refusals.specs.declared.Refusal.TheVariants.{BadNak}
use Rattle.rules.specs.Losses.{Item, Words, items, bad, is_range}
use Rattle.loss_words.specs.declared.Step.{Step}
use Rattle.loss_words.specs.declared.Step.TheVariants.{One, Range, Bad, End}

unfoldable pub step : List ℕ → Step
step [] = End
step (a ∷ []) = cond (ltb a (2 ^ 31)) (One a) Bad
step (a ∷ b ∷ ws) = cond (ltb a (2 ^ 31)) (One a) (cond (is_range a b) (Range (a - 2 ^ 31) b) Bad)

abbrev pub step_at : List ℕ → ℕ → Step
step_at ws at = step (drop at ws)

abbrev pub width_of : Step → ℕ
width_of (One a) = 1
width_of (Range a b) = 2
width_of Bad = 0
width_of End = 0

abbrev pub item_of : Step → Item
item_of (One a) = record { first = a; last = a }
item_of (Range a b) = record { first = a; last = b }
item_of Bad = record { first = 0; last = 0 }
item_of End = record { first = 0; last = 0 }

abbrev pub judged : Words → Result ℕ Refusal
judged (items is) = Ok (length is)
judged (bad index) = Err (BadNak index)
