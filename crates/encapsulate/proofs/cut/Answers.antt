-- `encapsulate::cut` meets its contract: a packet begins within its message (`start-within`), so that nothing overflows.
use Rattle.std.proofs.Common.{arith}
use Rattle.encapsulate.specs.Laws.{start-within}
use Rattle.encapsulate.proofs.cut.Goals as goal

pub overflow_sub-len : goal.overflow_sub-len
overflow_sub-len c =
    let a = c.args in
    let within = start-within a.size a.len a.k c.requires.sized.low (rw c.requires.is at c.requires.within) in
    omega arith
