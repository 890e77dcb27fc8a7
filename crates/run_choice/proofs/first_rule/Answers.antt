-- `run_choice::first_rule` meets its contract: by the loss list, the packet due, and the rest.
use Rattle.std.proofs.Common.{ap, arith, sym, ◌∙◌}
use Rattle.run_choice.specs.Choice.Laws.{rule-loss, rule-due, rule-rest}
use Rattle.run_choice.proofs.first_rule.Goals as goal

pub returns-then-b-gt0 : goal.returns-then-b-gt0
returns-then-b-gt0 c = rule-loss _ _ _ _ _ c.if-b-gt0.true

pub returns-in-Some : goal.returns-in-Some
returns-in-Some c =
    rule-due _ _ _ _ _ _ (omega (arith, c.if-b-gt0.false))
    (sym c.earliest.ensures ∙ c.in-Some.is)

pub returns-in-None : goal.returns-in-None
returns-in-None c =
    c.rule_of_the_rest.ensures
    ∙ rule-rest _ _ _ _ _ (omega (arith, c.if-b-gt0.false))
    (sym c.earliest.ensures ∙ c.in-None.is)
