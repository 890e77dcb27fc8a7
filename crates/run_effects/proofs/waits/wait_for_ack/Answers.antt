-- `run_effects::waits::wait_for_ack` meets its contract: the record of a wait.
use Rattle.run_effects.specs.Sending.Rules.{ack_waits}
use Rattle.run_effects.proofs.waits.wait_for_ack.Goals as goal

pub returns : goal.returns
returns c = ack_waits _ _ _ _ c.push.ensures _ c.number_of_unacked_packets-sent.ensures c.plain.ensures
