use Rattle.std.proofs.Common.{◌≡◌, length}
use Rattle.rules_numbers.specs.Modular.{seqs, dist}
use Rattle.loss_list.specs.LossList.{staying}
use Rattle.loss_list.proofs.remove_below.Given as goal

abbrev pub invariant-loop-n : goal.invariant-loop-n
invariant-loop-n l =
    staying (dist seqs l.front.0) l.k (length l.list) l.list ≡ staying (dist seqs l.front.0) l.k l.n l.list
