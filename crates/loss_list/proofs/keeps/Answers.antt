-- `loss_list::keeps` meets its contract: a length beyond the area, or the list itself.
use Rattle.std.proofs.Common.{◌∙◌, sym}
use borrow.Author.Tests.{lt-leb}
use Rattle.loss_list.specs.LossList.Laws.{keeps-beyond, keeps-slice}
use Rattle.loss_list.proofs.keeps.Goals as goal

pub returns-then-len-list : goal.returns-then-len-list
returns-then-len-list c = c.all_keep.ensures ∙ keeps-slice _ _ c.if-len-list.true _ _

pub returns-else-len-list : goal.returns-else-len-list
returns-else-len-list c = rw (lt-leb _ _ c.if-len-list.false) (sym (keeps-beyond _ _ _ _ c.if-len-list.false))
