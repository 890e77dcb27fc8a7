use Rattle.std.proofs.Common.{◌≡◌, length, ◌-◌}
use Rattle.loss_reader.proofs.Reading.Counting.{Turn, standing}
use Rattle.loss_reader.proofs.count.Given as goal

-- The reader stands at a turn of the count of the words that it began with.
abbrev pub invariant-loop-reader : goal.invariant-loop-reader
invariant-loop-reader l =
    (x : Turn l.initial.reader.words) × (l.reader ≡ standing l.initial.reader.words x) × (l.n ≡ x.n)

abbrev pub decreases-loop-reader : goal.decreases-loop-reader
decreases-loop-reader l = length l.reader.words.now - l.reader.at
