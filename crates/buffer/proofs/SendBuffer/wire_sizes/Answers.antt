-- `buffer::SendBuffer::wire_sizes` meets its contract: the loop has added up the first i packets.
use Rattle.std.proofs.Common.{arith, ◌≤◌}
use Rattle.buffer.specs.State.{settings_of}
use Rattle.buffer.specs.State.View.{sizes_none, sizes_more}
use Rattle.buffer.proofs.SendBuffer.wire_sizes.Goals as goal

pub loop-i-init : goal.loop-i-init
loop-i-init c = (sizes_none c.args.self.ring c.args.ring.now _, omega arith)

pub loop-i-preserved : goal.loop-i-preserved
loop-i-preserved c =
    let more = sizes_more c.args.self.ring c.args.ring.now (settings_of c.args.c) c.loop-i.i (omega (arith, c.requires.some)) in
    let short : c.entry.result.len ≤ 1_456 = rw c.entry.ensures (c.requires.lens c.loop-i.i (omega (arith, c.requires.some))) in
    (rw (more, ← c.entry.ensures, ← c.loop-i.invariant.0), omega (arith, short, c.requires.overhead, c.loop-i.invariant.1))
