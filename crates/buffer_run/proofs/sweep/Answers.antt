-- `buffer_run::sweep` meets its contract: whether or not the front is late.
use Rattle.std.proofs.Common.{[]}
use Rattle.buffer.specs.State.Facts.{stands_facts, stands-readable}
use Rattle.buffer_run.specs.Run.Turns.{swept_none, swept-some, late-few}
use Rattle.buffer_run.proofs.sweep.Goals as goal

pub late_packets-k-requires : goal.late_packets-k-requires
late_packets-k-requires c =
    let r = c.requires.ready in
    stands-readable r.stands r.kept

pub returns-then-k-lt1 : goal.returns-then-k-lt1
returns-then-k-lt1 c = swept_none _ _ _ _ _ _ c.late_packets-k.ensures _ c.if-k-lt1.true

pub drop_too_late_packets-requires-clause-removable : goal.drop_too_late_packets-requires-clause-removable
drop_too_late_packets-requires-clause-removable c =
    let k = stands_facts c.requires.ready.stands c.requires.ready.kept in
    record {
      cap = k.placed.cap;
      slot = k.placed.slot;
      len = k.placed.len;
      some = late-few _ _ c.args.b c.args.ring.now [] _ c.late_packets-k.ensures;
      inside = k.inside;
    }

pub returns : goal.returns
returns c =
    swept-some _ _ _ _ _ _ c.late_packets-k.ensures _ _ _ c.if-k-lt1.false c.drop_too_late_packets.ensures
