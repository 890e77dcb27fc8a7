-- `run_effects::packet::send_packet` meets its contract: the entry is read, overwritten and recorded.
use Rattle.run_effects.specs.Sending.Laws.{sent-from}
use Rattle.run_effects.proofs.packet.send_packet.Goals as goal

pub returns : goal.returns
returns c =
    sent-from _ _ _ _ _ _ _ _ _ _ _ _ _ c.requires.sendable.inside c.entry-e.ensures c.stamped.ensures c.set_entry.ensures c.plus.ensures
    c.send_record.ensures c.push.ensures
