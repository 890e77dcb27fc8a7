-- `reports::reports` meets its contract: refused by 2 or 3, or the reports of the buffer.
use Rattle.std.proofs.Common.{sym, ◌∙◌}
use Rattle.std.proofs.lemmas.Result.{err_from_is_err_and}
use Rattle.refusals.specs.Laws.{answer-refused, answer-accepted}
use Rattle.reports.specs.Reports.{reports}
use Rattle.reports.specs.Reports.Laws.{placed_by, reports-known}
use Rattle.sender.specs.SenderAndAreas.{books}
use Rattle.reports.proofs.reports.Goals as goal

pub duration-requires : goal.duration-requires
duration-requires c =
    placed_by _ _ (sym c.judge_areas.ensures ∙ c.in_ok-judge_areas.was)
