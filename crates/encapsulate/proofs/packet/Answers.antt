-- `encapsulate::packet` meets its contract: refused as `judge` says, else none past the count, else what `cut` ensures.
use Rattle.std.proofs.Common.{sym, ◌∙◌, Err, le-leb}
use Rattle.std.proofs.lemmas.Result.{err_from_is_err_and}
use borrow.Author.Tests.{lt-leb}
use Rattle.rules_packets.specs.Split.{nth, piece}
use Rattle.encapsulate.specs.Laws.{judge-sized}
use Rattle.refusals.specs.Laws.{answer-refused}
use Rattle.encapsulate.proofs.packet.Goals as goal

pub returns-in_err-judge : goal.returns-in_err-judge
unfolding piece
returns-in_err-judge c =
    let p = err_from_is_err_and c.from_residual.result c.from_residual.ensures.1 in
    rw (p.1, p.2) (answer-refused Err c.judge.result _ _ c.judge.ensures _ c.in_err-judge.was)

pub count-n-requires : goal.count-n-requires
count-n-requires c = judge-sized _ _ (sym c.judge.ensures ∙ c.in_ok-judge.was)

pub returns-then-n-k : goal.returns-then-n-k
unfolding piece nth
returns-then-n-k c = rw (← c.judge.ensures, c.in_ok-judge.was, ← c.count-n.ensures.is, le-leb _ _ c.if-n-k.true)

pub cut-requires : goal.cut-requires
cut-requires c = record { sized = judge-sized _ _ (sym c.judge.ensures ∙ c.in_ok-judge.was); is = c.count-n.ensures.is; within = c.if-n-k.false; few = c.count-n.ensures.high }

pub returns : goal.returns
unfolding piece nth
returns c = rw (← c.judge.ensures, c.in_ok-judge.was, c.cut.ensures, ← c.count-n.ensures.is, lt-leb _ _ c.if-n-k.false)
