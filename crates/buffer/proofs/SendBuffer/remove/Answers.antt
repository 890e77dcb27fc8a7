-- `buffer::SendBuffer::remove` meets its contract: its parts make up `removed`.
use Rattle.std.proofs.Common.{◌∙◌}
use Rattle.loss_list.specs.LossList.Laws.{staying-slice}
use Rattle.buffer.specs.Removal.Laws.{removed-is}
use Rattle.buffer.proofs.SendBuffer.remove.Goals as goal

pub returns : goal.returns
returns c =
    let a = c.args in
    let listed = c.remove_below-listed.ensures ∙ staying-slice a.self.lost a.lost.now c.requires.inside _ _ in
    removed-is _ _ _ _ _ _ _ _ c.plus-to.ensures listed c.remove_front.ensures c.saturating_sub.ensures
