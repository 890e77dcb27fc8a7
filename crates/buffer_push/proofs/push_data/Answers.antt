-- `buffer_push::push_data` meets its contract: a packet is still to come (`Next`), so it can be cut, room made and its
-- payload copied to its slot (`ahead`); the parts together are `push_one` (`pushed-is`).
use Rattle.std.proofs.Common.{arith}
use Rattle.buffer_push.specs.Message.Rest.{cuttable, size-high, begins, part_lent, roomable, ahead, appendable, pushed-is}
use Rattle.buffer_push.proofs.push_data.Goals as goal

pub cut-piece-requires : goal.cut-piece-requires
cut-piece-requires c = rw c.requires.count (cuttable c.requires.rest)

pub make_room-q-requires : goal.make_room-q-requires
make_room-q-requires c = roomable c.requires.rest

pub next_place-at-requires : goal.next_place-at-requires
next_place-at-requires c =
    let a = ahead c.requires.rest _ c.make_room-q.ensures in
    (a.placed.slot, a.placed.len, a.placed.cap, size-high c.requires.rest)

pub slice_bounds-copy_in-count : goal.slice_bounds-copy_in-count
slice_bounds-copy_in-count c =
    rw c.cut-piece.ensures (begins c.requires.rest)

pub slice_bounds-copy_in-start : goal.slice_bounds-copy_in-start
slice_bounds-copy_in-start c =
    rw c.cut-piece.ensures (begins c.requires.rest)

pub copy_in-requires : goal.copy_in-requires
copy_in-requires c =
    let a = ahead c.requires.rest _ c.make_room-q.ensures in
    record { n_in_bounds = rw (c.cut-piece.ensures, c.next_place-at.ensures) (omega (arith, a.place)); n_in_bounds_2 = part_lent c.requires.rest _ c.cut-piece.ensures }

pub append-requires : goal.append-requires
append-requires c =
    appendable c.requires.rest _ _ _ _ _ c.make_room-q.ensures c.cut-piece.ensures c.entry_of.ensures

pub returns : goal.returns
returns c =
    pushed-is _ _ _ _ _ _ _ _ _ _ _ _ _ _ c.cut-piece.ensures c.make_room-q.ensures c.next_place-at.ensures c.copy_in.ensures
    c.entry_of.ensures c.append.ensures
