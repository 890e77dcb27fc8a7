use Rattle.std.proofs.Common.{drop, take, ◌≡◌}
use Rattle.rules.specs.Run as rules
use Rattle.buffer.specs.State.{packets_of}
use Rattle.run_choice.specs.Choice.Laws.{or_else}
use Rattle.run_choice.proofs.earliest.Given as goal

abbrev pub invariant-loop-i : goal.invariant-loop-i
invariant-loop-i l =
    or_else (rules.earliest l.before l.i (drop l.i (take l.b.sent (packets_of l.b.ring l.ring)))) l.found ≡ rules.earliest l.ts_now 0 (take l.b.sent (packets_of l.b.ring l.ring))
