-- `run::run` meets its contract: refused with nothing changed, or done by buffer_run.
use Rattle.std.proofs.Common.{sym, ◌∙◌}
use Rattle.std.proofs.lemmas.Result.{err_from_is_err_and}
use Rattle.refusals.specs.Laws.{answer-refused, answer-accepted}
use Rattle.run.specs.Runs.{run}
use Rattle.run.specs.Runs.Laws.{runnable, run-done}
use Rattle.run.proofs.run.Goals as goal

pub next_snd_actions-r-requires : goal.next_snd_actions-r-requires
next_snd_actions-r-requires c =
    runnable _ _ _ _ (sym c.judge_run.ensures ∙ c.in_ok-judge_run.was)
