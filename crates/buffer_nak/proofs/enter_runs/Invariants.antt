use Rattle.std.proofs.Common.{drop, length, take, ◌*◌, ◌≡◌}
use Rattle.std.specs.Slice.Iter.{chunks_exact_rest, chunks_exact_size}
use Rattle.buffer_nak.proofs.Entering.{Entering}
use Rattle.buffer_nak.proofs.enter_runs.Given as goal

abbrev pub invariant-loop-run : goal.invariant-loop-run
invariant-loop-run l = record {
  entering : Entering l.front.0 l.runs l.initial.lost l.len l.count l.n (length l.yielded) l.lost;
  rest : chunks_exact_rest l.run-iterator ≡ drop (3 * length l.yielded) (take (3 * l.count) l.runs);
  size : chunks_exact_size l.run-iterator ≡ 3;
}
