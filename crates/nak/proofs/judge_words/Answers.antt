-- `nak::judge_words` meets its contract: a bad item, or no room for the items.
use Rattle.std.proofs.Common.{lt-ltb, le-ltb}
use Rattle.std.proofs.lemmas.Result.{err_from_is_err_and}
use Rattle.nak.specs.Naks.Laws.{words-bad, words-items}
use Rattle.nak.proofs.judge_words.Goals as goal

pub returns-in_err-items : goal.returns-in_err-items
returns-in_err-items c =
    let p = err_from_is_err_and c.from_residual.result c.from_residual.ensures.1 in
    rw (p.1, p.2) (words-bad _ _ _ c.judge.ensures _ c.in_err-items.was)

pub returns-then-room-items : goal.returns-then-room-items
returns-then-room-items c = words-items _ _ _ c.judge.ensures _ _ c.in_ok-items.was (rw (lt-ltb _ _ c.if-room-items.true))

pub returns : goal.returns
returns c = words-items _ _ _ c.judge.ensures _ _ c.in_ok-items.was (rw (le-ltb _ _ c.if-room-items.false))
