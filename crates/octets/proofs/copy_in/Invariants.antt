use Rattle.std.proofs.Common.{length, ◌≡◌}
use lib.Seq.{paste}
use Rattle.octets.proofs.copy_in.Given as goal

abbrev pub invariant-loop-i : goal.invariant-loop-i
invariant-loop-i l = (l.dst ≡ paste l.initial.dst l.at l.src l.i) × (length l.dst ≡ length l.initial.dst)
