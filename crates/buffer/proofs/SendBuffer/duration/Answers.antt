-- `buffer::SendBuffer::duration` meets its contract: the time is that of the ring's two ends.
use Rattle.std.proofs.Common.{arith, sym}
use Rattle.buffer.specs.State.Reports.{time-none, time-some}
use Rattle.buffer.proofs.SendBuffer.duration.Goals as goal

pub returns-then-self-eq0 : goal.returns-then-self-eq0
returns-then-self-eq0 c = sym (time-none _ _ (omega arith))

pub returns : goal.returns
returns c = rw (c.saturating_sub.ensures, c.entry-front.ensures, c.entry-back.ensures) (sym (time-some _ _ (omega arith)))
