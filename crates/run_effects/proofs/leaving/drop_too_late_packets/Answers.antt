-- `run_effects::leaving::drop_too_late_packets` meets its contract: the record, and removal from the front.
use Rattle.run_effects.specs.Sending.Rules.{drop_acts}
use Rattle.run_effects.proofs.leaving.drop_too_late_packets.Goals as goal

pub returns : goal.returns
returns c =
    drop_acts _ _ _ _ _ _ _ _ c.requires.front_bound.0 c.plus-to.ensures c.plain.ensures c.push.ensures c.remove.ensures
