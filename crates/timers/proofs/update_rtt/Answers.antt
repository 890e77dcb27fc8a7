-- `timers::update_rtt` meets its contract: an accepted round-trip time is in range (`accepted-ranged`).
use Rattle.std.proofs.Common.{sym, ◌∙◌}
use Rattle.timers.specs.Laws.{accepted-ranged}
use Rattle.timers.proofs.update_rtt.Goals as goal

pub calculate_periods-p-requires : goal.calculate_periods-p-requires
calculate_periods-p-requires c = accepted-ranged _ _ (sym c.judge_rtt.ensures ∙ c.in_ok-judge_rtt.was)
