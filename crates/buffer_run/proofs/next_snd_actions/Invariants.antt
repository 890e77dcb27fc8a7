use Rattle.std.proofs.Common.{◌≡◌}
use Rattle.buffer.specs.State.{settings_of, state}
use Rattle.buffer_run.specs.Run.{walk, turn, loop}
use Rattle.buffer_run.specs.Run.Going.{Going}
use Rattle.buffer_run.proofs.next_snd_actions.Given as goal

abbrev pub invariant-loop-left : goal.invariant-loop-left
invariant-loop-left l =
    Going (settings_of l.c) l.ts_now l.draining (loop (turn (settings_of l.c) l.ts_now l.draining) l.initial.left l.initial.left (walk (state l.initial.here l.initial.ring l.lost) l.initial.written.list.now l.initial.written.count l.initial.left)) (walk (state l.here l.ring l.lost) l.written.list.now l.written.count l.left)
    × (l.written.list.ghost_name ≡ l.initial.written.list.ghost_name)

abbrev pub decreases-loop-left : goal.decreases-loop-left
decreases-loop-left l = l.left
