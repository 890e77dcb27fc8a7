-- `run_choice::earliest` meets its contract: the choice is made among the packets behind, or else it is the one found
-- before them.
use Rattle.std.proofs.Common.{sym, ◌∙◌}
use Rattle.run_choice.specs.Choice.Laws.{due-nearer, due-not, due-end}
use Rattle.run_choice.proofs.earliest.Goals as goal
use Rattle.run_choice.proofs.earliest.Goals.{then-e-before, else-e-before}

pub loop-i-preserved : goal.loop-i-preserved
loop-i-preserved c =
    let e = c.entry-e.ensures in
    elim c.if-e-before.branch [
      | then-e-before w ↦
          rw (w.before-is, w.found-is, e)
          (sym (due-nearer c.args.b c.args.ring.now c.requires c.loop-i.i c.loop-i.before c.loop-i.found c.loop-i-test.true (rw (← e) w.if-e-before.true)) ∙ c.loop-i.invariant)
      | else-e-before w ↦
          rw (w.before-is, w.found-is)
          (sym (due-not c.args.b c.args.ring.now c.requires c.loop-i.i c.loop-i.before c.loop-i.found c.loop-i-test.true (rw (← e) w.if-e-before.false)) ∙ c.loop-i.invariant)
    ]

pub returns : goal.returns
returns c =
    sym (due-end c.args.b c.args.ring.now c.requires c.loop-i.i c.loop-i.before c.loop-i.found c.loop-i-test.false) ∙ c.loop-i.invariant
