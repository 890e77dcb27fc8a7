-- Checking a timer. Document 01, "Timers": "The idle timer moves on even where EXP count 16 or less keeps it silent."
--   timer_of, with_timer      the timer that a check concerns; the timers with that one replaced
--   check w ts now            checks one timer and moves no other: check_snd, check_full_ack, check_nak, check_statistics
--   heard e often             whether the idle timer is reported: it has expired, and EXP often enough
--   idle_after ts exp now     EXP has expired and become exp: the idle timer is checked and moves on, whatever the count
--   expired, idle             a choice by whether a timer has expired; nothing happens unless EXP has
--   check_peer_idle_timeout   the call
pub mod Examples
use Rattle.std.specs.Prelude.{Bool, false, cond, ℕ, ◌+◌, min, ltb, Option, Some, None, Result, Ok, Err}
use Rattle.rules_refusals.specs.Verdict.{answer}
use Rattle.rules_timers.specs.declared.Timer.{Timer}
use Rattle.rules_timers.specs.Timer.{most, ticked}
use Rattle.rules_timers.specs.declared.Timers.{Timers}
use Rattle.rules_timers.specs.Timers.{timers, judge}
use Rattle.rules_timers.specs.declared.Which.{Which}
use Rattle.rules_timers.specs.declared.Which.TheVariants.{Snd, FullAck, Nak, Statistics}
use Rattle.rules_refusals.specs.declared.Refusal.{Refusal}

abbrev pub timer_of : Which → Timers → Timer
timer_of Snd ts = ts.snd
timer_of FullAck ts = ts.full_ack
timer_of Nak ts = ts.nak
timer_of Statistics ts = ts.statistics

abbrev pub with_timer : Which → Timer → Timers → Timers
with_timer Snd t ts = timers t ts.full_ack ts.nak ts.exp ts.exp_count ts.peer_idle ts.statistics
with_timer FullAck t ts = timers ts.snd t ts.nak ts.exp ts.exp_count ts.peer_idle ts.statistics
with_timer Nak t ts = timers ts.snd ts.full_ack t ts.exp ts.exp_count ts.peer_idle ts.statistics
with_timer Statistics t ts = timers ts.snd ts.full_ack ts.nak ts.exp ts.exp_count ts.peer_idle t

unfoldable pub check : Which → Timers → ℕ → Result (Option ℕ × Timers) Refusal
check which ts now =
    let x = ticked (timer_of which ts) now in
    answer Err (judge ts now) (Ok (x.elapsed, with_timer which x.timer ts))

abbrev pub check_snd : Timers → ℕ → Result (Option ℕ × Timers) Refusal
check_snd ts now = check Snd ts now

abbrev pub check_full_ack : Timers → ℕ → Result (Option ℕ × Timers) Refusal
check_full_ack ts now = check FullAck ts now

abbrev pub check_nak : Timers → ℕ → Result (Option ℕ × Timers) Refusal
check_nak ts now = check Nak ts now

abbrev pub check_statistics : Timers → ℕ → Result (Option ℕ × Timers) Refusal
check_statistics ts now = check Statistics ts now

abbrev pub heard : Option ℕ → Bool → Bool
heard None often = false
heard (Some n) often = often

-- the idle timer is reported only if EXP's count is over 16; if it isn't reported, the count goes up
unfoldable pub idle_after : Timers → Timer → ℕ → Result (Option ℕ × Timers) Refusal
idle_after ts exp now =
    let t = ticked ts.peer_idle now in
    cond (heard t.elapsed (ltb 16 ts.exp_count))
    (Ok (t.elapsed, timers ts.snd ts.full_ack ts.nak exp ts.exp_count t.timer ts.statistics))
    (Ok (None, timers ts.snd ts.full_ack ts.nak exp (min most (ts.exp_count + 1)) t.timer ts.statistics))

abbrev pub expired : Option ℕ → Result (Option ℕ × Timers) Refusal → Result (Option ℕ × Timers) Refusal → Result (Option ℕ × Timers) Refusal
expired None quiet after = quiet
expired (Some n) quiet after = after

unfoldable pub idle : Timers → ℕ → Result (Option ℕ × Timers) Refusal
idle ts now =
    let t = ticked ts.exp now in
    expired t.elapsed (Ok (None, ts)) (idle_after ts t.timer now)

unfoldable pub check_peer_idle_timeout : Timers → ℕ → Result (Option ℕ × Timers) Refusal
check_peer_idle_timeout ts now = answer Err (judge ts now) (idle ts now)
