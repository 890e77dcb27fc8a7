-- `loss_words::runs::loss_of` meets its contract: each path through its tests is one law of `Runs.Laws`.
use Rattle.std.proofs.Common.{ap, arith, lit<, ℕ, ◌∙◌, ◌≡◌}
use Rattle.rules_numbers.specs.Modular.{seqs, plus, dist}
use Rattle.rules_numbers.specs.Modular.Laws.{dist-below}
use Rattle.loss_words.specs.Runs.Laws.{reaches-added, reaches_ignored, reaches-dropped}
use Rattle.loss_words.proofs.runs.loss_of.Goals as goal

pub returns-then-past-sent : goal.returns-then-past-sent
returns-then-past-sent c =
    let a = c.args in
    rw c.distance-past.ensures (reaches-added a.front.0 a.sent a.m.0 (rw c.distance-past.ensures at c.if-past-sent.true))

pub returns-then-ahead-lt1073741824 : goal.returns-then-ahead-lt1073741824
returns-then-ahead-lt1073741824 c =
    let a = c.args in
    let next : c.distance-ahead.result ≡ dist seqs (plus seqs a.front.0 a.sent) a.m.0 =
    c.distance-ahead.ensures ∙ ap (λ (x : ℕ). dist seqs x a.m.0) c.plus.ensures in
    rw next (reaches_ignored a.front.0 a.sent a.m.0 (rw c.distance-past.ensures at c.if-past-sent.false) (rw next at c.if-ahead-lt1073741824.true))

pub overflow_sub-result-2 : goal.overflow_sub-result-2
overflow_sub-result-2 c =
    omega (arith, c.distance-past.ensures, dist-below seqs c.args.front.0 c.args.m.0 (lit< tt))

pub returns : goal.returns
returns c =
    let a = c.args in
    let next : c.distance-ahead.result ≡ dist seqs (plus seqs a.front.0 a.sent) a.m.0 =
    c.distance-ahead.ensures ∙ ap (λ (x : ℕ). dist seqs x a.m.0) c.plus.ensures in
    rw c.distance-past.ensures (reaches-dropped a.front.0 a.sent a.m.0 (rw c.distance-past.ensures at c.if-past-sent.false) (rw next at c.if-ahead-lt1073741824.false))
