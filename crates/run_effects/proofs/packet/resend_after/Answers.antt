-- `run_effects::packet::resend_after` meets its contract: the first sending, or a later one.
use Rattle.std.proofs.Common.{◌∙◌}
use Rattle.run_effects.specs.Sending.Laws.{wait-first, wait-again}
use Rattle.run_effects.proofs.packet.resend_after.Goals as goal

pub returns-then-count-lt1 : goal.returns-then-count-lt1
returns-then-count-lt1 c = c.min.ensures ∙ wait-first _ _ c.if-count-lt1.true

pub returns : goal.returns
returns c = c.min-2.ensures ∙ wait-again _ _ c.if-count-lt1.false
