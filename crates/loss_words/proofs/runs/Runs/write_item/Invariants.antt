use Rattle.std.proofs.Common.{◌-◌}
use Rattle.loss_words.specs.Runs.{stretch_at}
use Rattle.loss_words.proofs.Writing.{Writing}
use Rattle.loss_words.proofs.runs.Runs.write_item.Given as goal

abbrev pub invariant-loop : goal.invariant-loop
invariant-loop l =
    Writing l.front.0 l.sent l.initial.self (stretch_at l.front.0 l.sent 3 l.initial.m.0 l.initial.k) l.self l.m.0 l.k (3 - l.counter)
