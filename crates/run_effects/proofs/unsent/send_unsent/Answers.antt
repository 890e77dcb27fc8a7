-- `run_effects::unsent::send_unsent` meets its contract: the two sendings of rule 5, one after the other.
use Rattle.std.proofs.Common.{[], arith}
use Rattle.run_effects.specs.Sending.Rules.{sendable}
use Rattle.run_effects.specs.Sending.Unsent.{sixteen_after, next-count, unsent_acts}
use Rattle.run_effects.proofs.unsent.send_unsent.Goals as goal

pub send_next_packet-first-requires-clause-sendable : goal.send_next_packet-first-requires-clause-sendable
send_next_packet-first-requires-clause-sendable c =
    let r = c.requires.standing.ready in
    sendable r.stands r.kept _ _ c.requires.sent_lt_len.0 c.requires.sent_lt_len.1

pub send_next_16n_packet-requires-clause-sixteen : goal.send_next_16n_packet-requires-clause-sixteen
send_next_16n_packet-requires-clause-sixteen c =
    sixteen_after _ _ _ _ _ _ _ c.requires.standing c.requires.sent_lt_len.0 c.requires.sent_lt_len.1 c.send_next_packet-first.ensures

pub send_next_16n_packet-requires-clause-room : goal.send_next_16n_packet-requires-clause-room
send_next_16n_packet-requires-clause-room c =
    let long = (c.send_next_packet-first.ensures.is []).same.long in
    let one = next-count _ _ _ _ _ _ _ c.send_next_packet-first.ensures in
    omega (arith, c.requires.sent_lt_len.2, long, one)

pub returns : goal.returns
returns c =
    unsent_acts _ _ _ _ _ _ _ _ _ _ c.send_next_packet-first.ensures c.send_next_16n_packet.ensures
