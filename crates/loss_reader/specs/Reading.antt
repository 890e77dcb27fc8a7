-- What a reader of loss words does. Document 01: "The decompressed loss iterator becomes a reader that holds the lent
-- words and its place."
--   start ws       the reader at the first word
--   here r         what is at its place
--   moved r        the reader past that; unchanged if it isn't an item
--   given s at w   the words read, from the step at `at` and what follows
--   reads n r      what n readings give, up to the end of the words or the first bad item
--   counts n r     how many items come, in n readings, before a place that has none
--   tally w more   one more than `more` if the step is some words wide, else 0
use Rattle.std.specs.Prelude.{List, [], ℕ, zero, suc, ◌+◌}
use Rattle.std.specs.Borrow.{Bor}
use Rattle.rules.specs.Losses.{Words, items, bad, before}
use Rattle.loss_words.specs.Words.{step_at, width_of, item_of}
use Rattle.loss_words.specs.declared.Step.{Step}
use Rattle.loss_words.specs.declared.Step.TheVariants.{One, Range, Bad, End}
use Rattle.loss_reader.specs.declared.LossReader.{LossReader}

abbrev pub start : Bor (List ℕ) → LossReader
start ws = record { words = ws; at = 0 }

abbrev pub here : LossReader → Step
here r = step_at r.words.now r.at

abbrev pub moved : LossReader → LossReader
moved r = record { words = r.words; at = r.at + width_of (here r) }

-- what is read from the step s at index `at`, if `more` is what the words after it give
unfoldable pub given : Step → ℕ → Words → Words
given (One a) at more = before (item_of (One a)) more
given (Range a b) at more = before (item_of (Range a b)) more
given Bad at more = bad at
given End at more = items []

unfoldable pub reads : ℕ → LossReader → Words
reads zero r = items []
reads (suc n) r = given (here r) r.at (reads n (moved r))

-- one more than `more` if the step is some words wide
abbrev pub tally : ℕ → ℕ → ℕ
tally zero more = 0
tally (suc w) more = suc more

unfoldable pub counts : ℕ → LossReader → ℕ
counts zero r = 0
counts (suc n) r = tally (width_of (here r)) (counts n (moved r))
