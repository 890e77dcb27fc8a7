-- `sender::judging::judge_message` meets its contract: 2 and 3 are tested first, so the byte count can be summed.
use Rattle.std.proofs.Common.{sym, ◌∙◌}
use Rattle.std.proofs.lemmas.Result.{err_from_is_err_and}
use Rattle.sender.specs.Calls.{message_verdict}
use Rattle.sender.specs.Calls.Laws.{counting, then-refused, then_by}
use Rattle.sender.proofs.judging.judge_message.Goals as goal

pub judge_input-requires : goal.judge_input-requires
judge_input-requires c = counting _ _ (sym c.judge_with_store.ensures ∙ c.in_ok-judge_with_store.was)
