use Rattle.std.proofs.Common.{length, ◌-◌, ◌≤◌}
use Rattle.loss_words.specs.Words.Laws.{Read}
use Rattle.loss_words.proofs.judge.Given as goal

abbrev pub invariant-loop-at : goal.invariant-loop-at
invariant-loop-at l =
    (length l.words ≤ 512) × Read l.words l.at l.n

abbrev pub decreases-loop-at : goal.decreases-loop-at
decreases-loop-at l = length l.words - l.at
