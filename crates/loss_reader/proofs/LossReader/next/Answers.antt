-- `loss_reader::LossReader::next`: the place after a reading fits, since it is the one before or within the words.
use Rattle.std.proofs.Common.{length, ◌<◌, ◌^◌, rules}
use Rattle.std.proofs.Math.Facts.{Fits-of_lt}
use Rattle.loss_reader.proofs.Reading.Laws.{moved-fits}
use Rattle.loss_reader.proofs.LossReader.next.Goals as goal

pub overflow_add-self : goal.overflow_add-self
overflow_add-self c =
    let r = c.args.self.now in
    let at : r.at < 2 ^ 64 = search (rules, c.type_inv.self) in
    let room : length r.words.now < 2 ^ 64 = search (rules, c.type_inv.self) in
    Fits-of_lt (rw (c.width.ensures, c.step_at-step.ensures) (moved-fits r (2 ^ 64) at room))
