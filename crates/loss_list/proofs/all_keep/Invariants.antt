use Rattle.std.proofs.Common.{drop, length, ◌≡◌}
use Rattle.rules_numbers.specs.Modular.{seqs, dist}
use Rattle.loss_list.specs.LossList.{descends, keeps}
use Rattle.loss_list.proofs.all_keep.Given as goal

abbrev pub invariant-loop-y : goal.invariant-loop-y
invariant-loop-y l =
    keeps l.front.0 l.sent (length l.list) l.list ≡ descends (dist seqs l.front.0) l.high (drop l.y-index l.list)
