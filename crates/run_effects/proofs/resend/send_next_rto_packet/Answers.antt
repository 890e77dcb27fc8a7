-- `run_effects::resend::send_next_rto_packet` meets its contract: packet i is sent.
use Rattle.std.proofs.Common.{refl}
use Rattle.run_effects.specs.Sending.Laws.{acts_as}
use Rattle.run_effects.specs.Sending.Rules.{sendable}
use Rattle.run_effects.proofs.resend.send_next_rto_packet.Goals as goal

pub send_packet-requires-clause-sendable : goal.send_packet-requires-clause-sendable
send_packet-requires-clause-sendable c =
    let r = c.requires.standing.ready in
    sendable r.stands r.kept _ _ c.requires.i_lt_len.0 c.requires.i_lt_len.1

pub returns : goal.returns
returns c = acts_as _ _ _ _ _ _ _ _ (λ lost. refl) c.send_packet.ensures
