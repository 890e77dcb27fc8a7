-- `buffer_push::make_room` meets its contract: in books that represent a sender which keeps the rules, the front packet
-- can be removed and its wire size subtracted (`weighable`, `removable`, `covered`); what is left is given by
-- `room-full` or, if there was room, by `room-none`.
use Rattle.std.proofs.Common.{arith}
use Rattle.buffer_push.specs.Message.Parts.{weighable, removable, covered, front-small, room-full, room-none}
use Rattle.buffer_push.proofs.make_room.Goals as goal

pub returns-then-b : goal.returns-then-b
returns-then-b c = room-none _ c.args.p c.args.ring.now c.args.lost.now (omega arith)

pub wire_sizes-wire-requires : goal.wire_sizes-wire-requires
wire_sizes-wire-requires c = weighable c.requires.ready.stands c.requires.ready.kept (omega arith)

pub overflow_sub-b : goal.overflow_sub-b
overflow_sub-b c = rw c.wire_sizes-wire.ensures (covered c.requires.ready.stands c.requires.ready.kept (omega arith))

pub remove-requires : goal.remove-requires
remove-requires c = removable c.requires.ready.stands c.requires.ready.kept (omega arith)

pub overflow_add-result-2 : goal.overflow_add-result-2
overflow_add-result-2 c =
    omega (arith, c.requires.wire, c.wire_sizes-wire.ensures, front-small c.requires.ready.stands c.requires.ready.kept (omega arith))

pub returns : goal.returns
returns c =
    room-full _ c.args.p c.args.ring.now c.args.lost.now _ _ c.requires.ready.stands.placed.slot (omega arith)
    c.wire_sizes-wire.ensures c.remove.ensures
