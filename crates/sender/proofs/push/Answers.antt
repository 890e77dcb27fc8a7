-- `sender::push` meets its contract: what is pushed and what pacing answers (`push-done`).
use Rattle.std.proofs.lemmas.Result.{err_from_is_err_and}
use Rattle.sender.specs.Calls.Laws.{push-done, finished_as}
use Rattle.sender.proofs.push.Goals as goal

pub returns-in_err-period : goal.returns-in_err-period
returns-in_err-period c =
    let p = err_from_is_err_and c.from_residual.result c.from_residual.ensures.1 in
    rw (p.1, p.2)
    (push-done _ _ _ _ _ c.requires _ _ _ _ _ _ c.push_message-p.ensures c.on_input.ensures (finished_as _ _ _ _ c.in_err-period.was))

pub returns : goal.returns
returns c =
    push-done _ _ _ _ _ c.requires _ _ _ _ _ _ c.push_message-p.ensures c.on_input.ensures (finished_as _ _ _ _ c.in_ok-period.was)
