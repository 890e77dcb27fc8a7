-- `sender::judging::count_is_full` meets its contract: the byte count is tested first, then pacing's counts.
use Rattle.std.proofs.Common.{le-leb}
use borrow.Author.Tests.{lt-leb}
use Rattle.sender.specs.Calls.{count_is_full}
use Rattle.sender.proofs.judging.count_is_full.Goals as goal

pub returns-then-sum-ge-BYTES_LIMIT : goal.returns-then-sum-ge-BYTES_LIMIT
unfolding count_is_full
returns-then-sum-ge-BYTES_LIMIT c = rw (← c.count-k.ensures.is, le-leb _ _ c.if-sum-ge-BYTES_LIMIT.true)

pub returns-else-sum-ge-BYTES_LIMIT : goal.returns-else-sum-ge-BYTES_LIMIT
unfolding count_is_full
returns-else-sum-ge-BYTES_LIMIT c =
    rw (← c.count-k.ensures.is, lt-leb _ _ c.if-sum-ge-BYTES_LIMIT.false, c.count_full.ensures)
