-- `run_effects::packet::send_record` meets its contract: the flags come from the entry's words.
use Rattle.run_effects.specs.Sending.Laws.{recorded}
use Rattle.run_effects.proofs.packet.send_record.Goals as goal

pub returns : goal.returns
returns c =
    recorded _ _ _ _ _ _ c.min.ensures c.min-2.ensures c.stamp.ensures
