use Rattle.std.proofs.Common.{drop, ◌+◌, ◌≡◌}
use Rattle.rules.specs.Run.{late, late_from}
use Rattle.buffer.specs.State.{settings_of, packets_of}
use Rattle.run_choice.proofs.late_packets.Given as goal

abbrev pub invariant-loop-i : goal.invariant-loop-i
invariant-loop-i l =
    late (settings_of l.c) l.ts_now (packets_of l.b.ring l.ring) ≡ l.i + late_from (settings_of l.c) l.ts_now l.message (drop l.i (packets_of l.b.ring l.ring))
