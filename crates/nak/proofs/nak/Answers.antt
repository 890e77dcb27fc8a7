-- `nak::nak` meets its contract: refused with nothing changed, or done by buffer_nak.
use Rattle.std.proofs.Common.{sym, ◌∙◌}
use Rattle.std.proofs.lemmas.Result.{err_from_is_err_and}
use Rattle.refusals.specs.Laws.{answer-refused, answer-accepted}
use Rattle.nak.specs.Naks.{nak}
use Rattle.nak.specs.Naks.Laws.{reportable, nak-done}
use Rattle.sender.specs.SenderAndAreas.{books}
use Rattle.nak.proofs.nak.Goals as goal

pub add_to_loss_list-r-requires : goal.add_to_loss_list-r-requires
add_to_loss_list-r-requires c =
    reportable _ _ _ (sym c.judge_nak.ensures ∙ c.in_ok-judge_nak.was)
