-- `loss_list::all_keep` meets its contract. After i entries in order, the rest of the list is left to check, with keys
-- below the last.
use Rattle.std.proofs.Common.{◌<◌, ◌≡◌, length, ℕ, sym, ap, ◌∙◌, drop, arith}
use Rattle.rules_numbers.specs.Modular.{seqs, dist}
use Rattle.loss_list.specs.LossList.{descends}
use Rattle.loss_list.specs.LossList.Laws.{whole-on, whole-not, whole-end, keeps-whole}
use Rattle.loss_list.proofs.all_keep.Goals as goal

pub loop-y-init : goal.loop-y-init
loop-y-init c = keeps-whole c.args.front.0 c.args.sent c.args.list.now

pub returns-then-not-in_order : goal.returns-then-not-in_order
returns-then-not-in_order c =
    sym (c.loop-y.invariant
    ∙ whole-not (dist seqs c.args.front.0) c.args.list.now c.loop-y.y-index c.loop-y.high c.loop-y-test.true
    (rw (← c.distance-k.ensures) (sym c.in_order.ensures ∙ c.if-not-in_order.true)))

pub loop-y-preserved : goal.loop-y-preserved
loop-y-preserved c =
    rw c.distance-k.ensures
    (c.loop-y.invariant
    ∙ whole-on (dist seqs c.args.front.0) c.args.list.now c.loop-y.y-index c.loop-y.high c.loop-y-test.true
    (rw (← c.distance-k.ensures) (sym c.in_order.ensures ∙ c.if-not-in_order.false)))

pub returns : goal.returns
returns c =
    let end : c.loop-y.y-index ≡ length c.args.list.now = omega arith in
    sym (c.loop-y.invariant
    ∙ ap (λ (n : ℕ). descends (dist seqs c.args.front.0) c.loop-y.high (drop n c.args.list.now)) end
    ∙ whole-end (dist seqs c.args.front.0) c.args.list.now c.loop-y.high)
