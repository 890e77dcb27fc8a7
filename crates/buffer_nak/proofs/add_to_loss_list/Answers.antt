-- `buffer_nak::add_to_loss_list` meets its contract: the runs are written and the Added ones enter; there is room for
-- them.
use Rattle.std.proofs.Common.{arith, refl}
use Rattle.buffer_nak.specs.Report.Laws.{readable, add_done}
use Rattle.buffer_nak.specs.Report.Stands.{lost-fits}
use Rattle.buffer_nak.proofs.add_to_loss_list.Goals as goal

pub enter_runs-n-requires : goal.enter_runs-n-requires
enter_runs-n-requires c =
    readable c.args.b c.args.words.now c.args.lost.now c.args.out.now _ _ c.write_runs-runs.ensures
    (lost-fits c.requires.ready.stands c.requires.ready.kept c.args.words.now (λ j. omega (arith, c.shared_slice_known-1.given j)))

pub returns : goal.returns
returns c =
    add_done c.args.b c.args.words.now c.args.lost.now c.args.out.now _ _ c.write_runs-runs.ensures _ _ _
    c.enter_runs-n.ensures refl
