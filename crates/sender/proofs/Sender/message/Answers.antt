-- `sender::Sender::message` meets its contract: refused with nothing changed, or pushed.
use Rattle.std.proofs.Common.{sym, ◌∙◌}
use Rattle.std.proofs.lemmas.Result.{err_from_is_err_and}
use Rattle.refusals.specs.Laws.{answer-refused, answer-accepted}
use Rattle.sender.specs.Calls.{message}
use Rattle.sender.specs.Calls.Laws.{pushable}
use Rattle.sender.proofs.Sender.message.Goals as goal

pub push-requires : goal.push-requires
push-requires c =
    pushable _ _ _ _ _ (sym c.judge_message.ensures ∙ c.in_ok-judge_message.was)
