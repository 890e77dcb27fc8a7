-- `run_effects::waits::wait_for_input` meets its contract: the record of a wait.
use Rattle.run_effects.specs.Sending.Rules.{input_waits}
use Rattle.run_effects.proofs.waits.wait_for_input.Goals as goal

pub returns : goal.returns
returns c = input_waits _ _ _ _ c.push.ensures c.plain.ensures
