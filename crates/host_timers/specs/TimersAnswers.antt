-- The answers of the timers' calls as numbers. Document 01, "What each place should look like": "Where an answer is an
-- enum, a definition states this paper's number and values for each of its cases."
--   told e                    how many periods a check found; 0 means none (Laws, ticked-some)
--   nanoseconds a             0 and the nanoseconds read, or the refusal's number
--   blank, blanks             six timers of zeros and an EXP count of 0, for a refused `new`
--   timers_answer r n ts      an answer from its three fields
--   timers_set ts a           after ts are made or set: 0 and the new timers, or the refusal's number and ts unchanged
--   timers_checked ts a       after a check of one of ts: the same, with the periods
--   next_message known time   the next message's time, if the host knows it
pub mod Laws
use Rattle.std.specs.Prelude.{Bool, true, false, ℕ, Option, Some, None, Result, Ok, Err}
use Rattle.rules_refusals.specs.Table.{number_of}
use Rattle.rules_timers.specs.declared.Timer.{Timer}
use Rattle.rules_timers.specs.declared.Timers.{Timers}
use Rattle.rules_timers.specs.Timers.{timers}
use Rattle.host_timers.specs.declared.TimersAnswer.{TimersAnswer}
use Rattle.host_timers.specs.declared.NanosecondsAnswer.{NanosecondsAnswer}
use Rattle.rules_refusals.specs.declared.Refusal.{Refusal}

abbrev pub told : Option ℕ → ℕ
told None = 0
told (Some n) = n

unfoldable pub nanoseconds : Result ℕ Refusal → NanosecondsAnswer
nanoseconds (Ok n) = record { refusal = 0; nanoseconds = n }
nanoseconds (Err refusal) = record { refusal = number_of refusal; nanoseconds = 0 }

abbrev pub blank : Timer
blank = record { period = 0; last = 0 }

abbrev pub blanks : Timers
blanks = timers blank blank blank blank 0 blank blank

abbrev pub timers_answer : ℕ → ℕ → Timers → TimersAnswer
timers_answer refusal periods ts = record { refusal = refusal; periods = periods; timers = ts }

unfoldable pub timers_set : Timers → Result Timers Refusal → TimersAnswer
timers_set before (Ok ts) = timers_answer 0 0 ts
timers_set before (Err refusal) = timers_answer (number_of refusal) 0 before

unfoldable pub timers_checked : Timers → Result (Option ℕ × Timers) Refusal → TimersAnswer
timers_checked before (Ok (elapsed, ts)) = timers_answer 0 (told elapsed) ts
timers_checked before (Err refusal) = timers_answer (number_of refusal) 0 before

abbrev pub next_message : Bool → ℕ → Option ℕ
next_message true time = Some time
next_message false time = None
