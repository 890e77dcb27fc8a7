-- `loss_list::in_order` meets its contract: each path through its tests gives what the definition computes.
use Rattle.std.proofs.Common.{le-leb, le-ltb, lt-ltb}
use borrow.Author.Tests.{lt-leb}
use Rattle.loss_list.proofs.in_order.Goals as goal

pub returns-then-y-lt2147483648 : goal.returns-then-y-lt2147483648
returns-then-y-lt2147483648 c = search (lt-ltb, le-ltb, le-leb, lt-leb)

pub returns-else-y-lt2147483648 : goal.returns-else-y-lt2147483648
returns-else-y-lt2147483648 c = search (lt-ltb, le-ltb, le-leb, lt-leb)
