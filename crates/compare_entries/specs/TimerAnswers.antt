-- One timer's answers as numbers. Document 01, "What each place should look like": "Where an answer is an enum, a
-- definition states this paper's number and values for each of its cases."
--   timer_answer r n t   an answer from its three fields
--   timer_set t a        after t is made or set: 0 and the new timer, or the refusal's number and t unchanged
--   timer_checked t a    after a check of t: 0, the periods and the new timer, or the refusal's number and t unchanged
use Rattle.std.specs.Prelude.{ℕ, Result, Ok, Err}
use Rattle.rules_refusals.specs.Table.{number_of}
use Rattle.rules_timers.specs.declared.Timer.{Timer}
use Rattle.host_timers.specs.TimersAnswers.{told}
use Rattle.compare_entries.specs.declared.of_timer.TimerAnswer.{TimerAnswer}
use Rattle.rules_refusals.specs.declared.Refusal.{Refusal}
use Rattle.rules_timers.specs.declared.Ticked.{Ticked}

abbrev pub timer_answer : ℕ → ℕ → Timer → TimerAnswer
timer_answer refusal periods timer = record { refusal = refusal; periods = periods; timer = timer }

unfoldable pub timer_set : Timer → Result Timer Refusal → TimerAnswer
timer_set before (Ok timer) = timer_answer 0 0 timer
timer_set before (Err refusal) = timer_answer (number_of refusal) 0 before

unfoldable pub timer_checked : Timer → Result Ticked Refusal → TimerAnswer
timer_checked before (Ok ticked) = timer_answer 0 (told ticked.elapsed) ticked.timer
timer_checked before (Err refusal) = timer_answer (number_of refusal) 0 before
