-- `buffer_nak::enter_run` meets its contract: an Added run is entered by `loss_list::enter`; otherwise the list stays.
use Rattle.std.proofs.Common.{arith}
use Rattle.buffer_nak.specs.Report.Laws.{added-fits, added-left, enter-none}
use Rattle.buffer_nak.proofs.enter_run.Goals as goal

pub enter-requires : goal.enter-requires
enter-requires c =
    added-fits c.args.front.0 c.args.kind c.args.first c.args.end c.distance-count.result c.args.len c.args.lost.now
    c.if-kind.true c.distance-count.ensures c.requires

pub returns-then-kind : goal.returns-then-kind
returns-then-kind c =
    added-left c.args.front.0 c.args.kind c.args.first c.args.end c.distance-count.result c.args.len c.args.lost.now
    c.if-kind.true c.distance-count.ensures _ _ c.enter.ensures

pub returns : goal.returns
returns c =
    enter-none c.args.front.0 c.args.kind c.args.first c.args.end c.args.len c.args.lost.now (λ e. omega arith) c.requires.inside
