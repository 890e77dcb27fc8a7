use Rattle.std.proofs.Common.{take, ◌*◌, ◌≡◌, ◌≤◌}
use Rattle.rules.specs.Sender.{wire_sizes}
use Rattle.buffer.specs.State.{settings_of, packets_of}
use Rattle.buffer.proofs.SendBuffer.wire_sizes.Given as goal

abbrev pub invariant-loop-i : goal.invariant-loop-i
invariant-loop-i l =
    (l.sum ≡ wire_sizes (settings_of l.c) (take l.i (packets_of l.self.ring l.ring))) × (l.sum ≤ l.i * 1_584)
