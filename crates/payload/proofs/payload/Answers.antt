-- `payload::payload` meets its contract: refused by 2, 3 or 7, or looked up by `find`.
use Rattle.std.proofs.Common.{sym, ◌∙◌}
use Rattle.std.proofs.lemmas.Result.{err_from_is_err_and}
use Rattle.refusals.specs.Laws.{answer-refused, answer-accepted}
use Rattle.payload.specs.Payload.{payload}
use Rattle.payload.specs.Payload.Laws.{findable}
use Rattle.payload.proofs.payload.Goals as goal

pub find-requires : goal.find-requires
find-requires c = findable _ _ _ (sym c.judge_payload.ensures ∙ c.in_ok-judge_payload.was)
