-- `timer_checks::wake::next_timer` meets its contract: the timers of an accepted call keep the rules (`accepted-kept`).
use Rattle.std.proofs.Common.{sym, ◌∙◌}
use Rattle.rules_timers.specs.Wake.{judge_next}
use Rattle.timers.specs.Laws.{accepted-kept}
use Rattle.timer_checks.proofs.wake.next_timer.Goals as goal

pub wake-requires : goal.wake-requires
unfolding judge_next
wake-requires c = accepted-kept _ _ (sym c.judge_next.ensures ∙ c.in_ok-judge_next.was)
