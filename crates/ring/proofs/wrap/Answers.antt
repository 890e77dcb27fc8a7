-- `ring::wrap` meets its contract: it branches as `wrap_of` does.
use Rattle.std.proofs.Common.{arith, le-ltb, lt-ltb}
use Rattle.ring.proofs.wrap.Goals as goal

pub returns-then-sum-cap : goal.returns-then-sum-cap
returns-then-sum-cap c = (search lt-ltb, omega arith)

pub returns-else-sum-cap : goal.returns-else-sum-cap
returns-else-sum-cap c = (search le-ltb, omega arith)
