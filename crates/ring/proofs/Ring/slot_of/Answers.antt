-- `ring::Ring::slot_of` meets its contract: what `wrap` ensures.
use Rattle.ring.specs.Ring.{slot_of}
use Rattle.ring.proofs.Ring.slot_of.Goals as goal

pub returns : goal.returns
unfolding slot_of
returns c = c.wrap.ensures
