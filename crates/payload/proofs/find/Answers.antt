-- `payload::find` meets its contract: a buffered packet is found by its distance from the front; otherwise the flushed
-- one is tried.
use Rattle.std.proofs.Common.{arith, le_of_lt, mul-le-mul_right}
use Rattle.payload.specs.Payload.Laws.{finding, find_buffered, find_other}
use Rattle.payload.proofs.find.Goals as goal

pub slot_of-requires : goal.slot_of-requires
slot_of-requires c =
    let p = (finding _ _ c.requires).placed in
    let h = c.if-d-s.true in
    (p.slot, omega (arith, p.len, h), p.cap)

pub overflow_mul-result : goal.overflow_mul-result
overflow_mul-result c =
    let p = finding _ _ c.requires in
    let below = c.slot_of.ensures.1 in
    let w = mul-le-mul_right c.args.s.settings.size (le_of_lt below) in
    let v = mul-le-mul_right c.args.s.settings.size p.placed.cap in
    omega (arith, w, v, p.size)

pub entry-requires-clause-placed : goal.entry-requires-clause-placed
entry-requires-clause-placed c = (finding _ _ c.requires).placed

pub returns-then-d-s : goal.returns-then-d-s
returns-then-d-s c =
    find_buffered _ _ _ _ c.distance-d.ensures c.if-d-s.true _ _ c.entry.ensures c.slot_of.ensures.0

pub flushed_at-requires : goal.flushed_at-requires
flushed_at-requires c = (finding _ _ c.requires).held

pub returns : goal.returns
returns c = find_other _ _ _ _ c.distance-d.ensures c.if-d-s.false _ c.flushed_at.ensures
