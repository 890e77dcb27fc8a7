-- `run_effects::unsent::send_next_16n_packet` meets its contract: by the test of its number.
use Rattle.std.proofs.Common.{[]}
use Rattle.run_effects.specs.Sending.Unsent.{sixteen_sends, sixteen_idle}
use Rattle.run_effects.proofs.unsent.send_next_16n_packet.Goals as goal

pub send_next_packet-requires-clause-sendable : goal.send_next_packet-requires-clause-sendable
send_next_packet-requires-clause-sendable c =
    c.requires.sixteen.ready [] (rw (← c.plus-next.ensures) c.if-next-b.true)

pub returns-then-next-b : goal.returns-then-next-b
returns-then-next-b c =
    sixteen_sends _ _ _ _ _ _ _ _ c.plus-next.ensures c.if-next-b.true c.send_next_packet.ensures

pub returns : goal.returns
returns c = sixteen_idle _ _ _ _ _ c.plus-next.ensures c.if-next-b.false
