-- `run_effects::leaving::flush_on_close` meets its contract: its parts make up the flush.
use Rattle.std.proofs.Common.{arith}
use Rattle.buffer.specs.State.Facts.{stands_facts, stands-entry, stands-covers}
use Rattle.run_effects.specs.Sending.Rules.{flush_acts}
use Rattle.run_effects.proofs.leaving.flush_on_close.Goals as goal

pub wire_sizes-gone-requires : goal.wire_sizes-gone-requires
wire_sizes-gone-requires c =
    let S = c.requires.flushable.ready.stands in
    let K = c.requires.flushable.ready.kept in
    let k = stands_facts S K in
    record {
      placed = k.placed;
      some = c.requires.flushable.one;
      overhead = k.settings.overhead;
      lens = λ i h. let e = stands-entry S K i h in omega (arith, e.len, k.settings.size);
    }

pub overflow_sub-b : goal.overflow_sub-b
overflow_sub-b c =
    rw c.wire_sizes-gone.ensures (stands-covers c.requires.flushable.ready.stands c.requires.flushable.ready.kept 1)

pub remove-rest-requires : goal.remove-rest-requires
remove-rest-requires c =
    let k = stands_facts c.requires.flushable.ready.stands c.requires.flushable.ready.kept in
    record { cap = k.placed.cap; slot = k.placed.slot; len = k.placed.len; some = c.requires.flushable.one; inside = k.inside }

pub send_record-requires : goal.send_record-requires
send_record-requires c =
    let S = c.requires.flushable.ready.stands in
    let K = c.requires.flushable.ready.kept in
    let e = stands-entry S K 0 c.requires.flushable.one in
    let is = c.entry-e.ensures in
    let k = stands_facts S K in
    (rw is e.time, rw is e.message, rw is (omega (arith, e.len, k.settings.size)))

pub returns : goal.returns
returns c =
    let k = stands_facts c.requires.flushable.ready.stands c.requires.flushable.ready.kept in
    flush_acts _ _ _ _ _ _ _ _ _ _ c.requires.flushable.one k.front c.entry-e.ensures c.wire_sizes-gone.ensures c.remove-rest.ensures
    c.send_record.ensures c.push.ensures
