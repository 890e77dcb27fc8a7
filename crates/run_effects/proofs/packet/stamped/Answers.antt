-- `run_effects::packet::stamped` meets its contract, from the time to the resend.
use Rattle.std.proofs.Common.{arith, ◌-◌, ◌^◌, ◌≤◌}
use Rattle.run_effects.specs.Sending.{stamped}
use Rattle.rules_theorems.specs.Laws.Run.{wait-small}
use Rattle.run_effects.proofs.packet.stamped.Goals as goal

pub overflow_add-result : goal.overflow_add-result
overflow_add-result c =
    let small : c.resend_after.result ≤ 2 ^ 30 - 1 = rw c.resend_after.ensures (wait-small _ _) in
    record { fits = omega (arith, c.requires.1, small) }

pub returns : goal.returns
unfolding stamped
returns c = rw (c.min.ensures, c.resend_after.ensures)
