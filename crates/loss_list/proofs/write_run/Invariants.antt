use Rattle.std.proofs.Common.{◌-◌, ◌≡◌}
use Rattle.loss_list.specs.LossList.Laws.{written}
use Rattle.loss_list.proofs.write_run.Given as goal

abbrev pub invariant-loop-i : goal.invariant-loop-i
invariant-loop-i l =
    l.list ≡ written l.initial.list (l.end - l.i) l.end l.first.0 l.i
