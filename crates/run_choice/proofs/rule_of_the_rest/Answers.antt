-- `run_choice::rule_of_the_rest` meets its contract: test by test.
use Rattle.std.proofs.Common.{le-ltb, lt-ltb, sym, ◌∙◌}
use Rattle.run_choice.specs.Choice.Laws.{rest_window, rest-unsent, rest_flush, rest-input}
use Rattle.run_choice.proofs.rule_of_the_rest.Goals as goal

pub returns-then-flow_window_exceeded : goal.returns-then-flow_window_exceeded
returns-then-flow_window_exceeded c = rest_window _ _ _ (sym c.flow_window_exceeded.ensures ∙ c.if-flow_window_exceeded.true)

pub returns-then-b : goal.returns-then-b
returns-then-b c =
    rest-unsent _ _ _ (sym c.flow_window_exceeded.ensures ∙ c.if-flow_window_exceeded.false)
    (lt-ltb _ _ c.if-b.true)

pub returns-then-draining-b : goal.returns-then-draining-b
returns-then-draining-b c =
    rest_flush _ _ _ (sym c.flow_window_exceeded.ensures ∙ c.if-flow_window_exceeded.false)
    (le-ltb _ _ c.if-b.false) c.if-draining-b.true

pub returns : goal.returns
returns c =
    rest-input _ _ _ (sym c.flow_window_exceeded.ensures ∙ c.if-flow_window_exceeded.false)
    (le-ltb _ _ c.if-b.false) c.if-draining-b.false
