-- `encapsulate::packets` meets its contract: refused as `judge` says, else the count.
use Rattle.std.proofs.Common.{sym, ◌∙◌, Err}
use Rattle.std.proofs.lemmas.Result.{err_from_is_err_and}
use Rattle.rules_packets.specs.Split.{split}
use Rattle.encapsulate.specs.Laws.{judge-sized}
use Rattle.refusals.specs.Laws.{answer-refused, answer-accepted}
use Rattle.encapsulate.proofs.packets.Goals as goal

pub returns-in_err-judge : goal.returns-in_err-judge
unfolding split
returns-in_err-judge c =
    let p = err_from_is_err_and c.from_residual.result c.from_residual.ensures.1 in
    rw (p.1, p.2) (answer-refused Err c.judge.result _ _ c.judge.ensures _ c.in_err-judge.was)

pub count-requires : goal.count-requires
count-requires c = judge-sized _ _ (sym c.judge.ensures ∙ c.in_ok-judge.was)

pub returns : goal.returns
unfolding split
returns c = rw c.count.ensures.is (answer-accepted Err c.judge.result _ _ c.judge.ensures c.in_ok-judge.was)
