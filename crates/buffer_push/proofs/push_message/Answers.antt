-- `buffer_push::push_message` meets its contract. The loop's invariant: the packets still to come lead to the same end
-- as all from the start (`Going`).
use Rattle.std.proofs.Common.{arith}
use Rattle.buffer_push.specs.Message.Whole.{sized, going-opened, going_next, going-one, one-made, going-all, whole}
use Rattle.buffer_push.proofs.push_message.Goals as goal

pub count-n-requires : goal.count-n-requires
count-n-requires c = sized c.requires

pub loop-init : goal.loop-init
loop-init c = record { going = going-opened _ _ _ _ c.args.b _ _ _ _ c.count-n.ensures.is c.begin-p.ensures c.requires; made = rw c.begin-p.ensures }

pub push_data-p-requires : goal.push_data-p-requires
push_data-p-requires c = going_next c.loop.invariant.going (omega (arith, c.loop.invariant.made))

pub loop-preserved : goal.loop-preserved
loop-preserved c =
    let i = c.loop.invariant in
    record { going = going-one i.going (omega (arith, i.made)) _ c.push_data-p.ensures; made = omega (arith, i.made, one-made i.going _ c.push_data-p.ensures) }

pub returns : goal.returns
returns c =
    whole _ _ _ _ c.args.b _ _ _ _ c.count-n.ensures.is c.begin-p.ensures _ (going-all c.loop.invariant.going (omega (arith, c.loop.invariant.made)))
