use Rattle.std.proofs.Common.{length, ◌-◌}
use Rattle.rules.specs.Losses.{words_of, joined, items_of}
use Rattle.loss_words.specs.Runs.{runs_at}
use Rattle.loss_words.proofs.Answering.{Answering}
use Rattle.loss_words.proofs.runs.write_runs.Given as goal

abbrev pub invariant-loop-at : goal.invariant-loop-at
invariant-loop-at l =
    Answering l.words l.front.0 l.sent l.initial.runs (joined (runs_at l.front.0 l.sent (items_of (words_of l.words)))) l.at l.runs

abbrev pub decreases-loop-at : goal.decreases-loop-at
decreases-loop-at l = length l.words - l.at
