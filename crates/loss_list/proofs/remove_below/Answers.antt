-- `loss_list::remove_below` meets its contract. The loop goes back past the entries that are removed (`staying-on`),
-- and stops at the first that stays (`staying-end`).
use Rattle.std.proofs.Common.{arith, sym, ◌+◌, ◌-◌, ◌∙◌, ◌≡◌}
use Rattle.rules_numbers.specs.Modular.{seqs, dist}
use Rattle.loss_list.specs.LossList.Laws.{staying-on, staying-end, staying-none}
use Rattle.loss_list.proofs.remove_below.Goals as goal

pub returns-then-k-distance : goal.returns-then-k-distance
returns-then-k-distance c =
    let k = c.distance-k in
    let back : c.loop-n.n - 1 + 1 ≡ c.loop-n.n = omega arith in
    rw (← k.ensures, back)
    (sym (c.loop-n.invariant
    ∙ staying-end (dist seqs c.args.front.0) k.result c.args.list.now c.loop-n.n c.loop-n-test.true (omega arith)))

pub loop-n-preserved : goal.loop-n-preserved
loop-n-preserved c =
    c.loop-n.invariant
    ∙ staying-on (dist seqs c.args.front.0) c.distance-k.result c.args.list.now c.loop-n.n c.loop-n-test.true (omega arith)

pub returns : goal.returns
returns c =
    let k = c.distance-k in
    let none : c.loop-n.n ≡ 0 = omega arith in
    rw (← k.ensures)
    (sym (c.loop-n.invariant
    ∙ rw none (staying-none (dist seqs c.args.front.0) k.result c.args.list.now)))
