-- `run_effects::unsent::send_next_packet` meets its contract: the next unsent is sent.
use Rattle.std.proofs.Common.{refl}
use Rattle.run_effects.specs.Sending.Laws.{acts_as}
use Rattle.run_effects.proofs.unsent.send_next_packet.Goals as goal

pub returns : goal.returns
returns c = acts_as _ _ _ _ _ _ _ _ (λ lost. refl) c.send_packet.ensures
