-- One timer. Document 01, "Timers": "Timers use nanoseconds below 2^58, periods to 10^15 (BadSetting above). A new
-- timer's period is at least 1,000; a set one may be 0 and then always answers 1 and doesn't move. Otherwise it answers
-- nothing before origin + period, and from then on floor(elapsed / period), held at 2^32 − 1, and the origin moves by
-- that many periods." The origin is the Rust's `last`. Each call tests its refusals in the order of their numbers.
--   instant_limit, longest, shortest_new, most   2^58 ns, 10^15 ns, 1,000 ns, 2^32 − 1
--   timer p origin                               a timer from its two fields
--   kept t                                       book rules: "timer origins below 2^58, periods at most 10^15"
--   started now p                                a new timer
--   made now p, period_of t, next_instant t, reset t now, set_period t p, check_expired t now   the calls
--   periods t now                                how many periods have elapsed, for a timer whose period is not 0
--   ticked t now                                 what a check answers, and the timer after it
pub mod Examples
use Rattle.std.specs.Prelude.{Bool, cond, not, ◌&&◌, ℕ, ◌+◌, ◌-◌, ◌*◌, ◌/◌, ◌^◌, min, max, ltb, leb, eqb, Some, None, Result, Ok, Err}
use Rattle.rules_refusals.specs.declared.Refusal.TheVariants.{BadSetting, BadState, BadTime}
use Rattle.rules_timers.specs.declared.Timer.{Timer}
use Rattle.rules_timers.specs.declared.Ticked.{Ticked}
use Rattle.rules_refusals.specs.declared.Refusal.{Refusal}

abbrev pub instant_limit : ℕ
instant_limit = 2 ^ 58

abbrev pub longest : ℕ
longest = 10 ^ 15

abbrev pub shortest_new : ℕ
shortest_new = 1_000

abbrev pub most : ℕ
most = 2 ^ 32 - 1

abbrev pub timer : ℕ → ℕ → Timer
timer period last = record { period = period; last = last }

abbrev pub kept : Timer → Bool
kept t = ltb t.last instant_limit && leb t.period longest

abbrev pub started : ℕ → ℕ → Timer
started now period = timer (max shortest_new period) now

unfoldable pub made : ℕ → ℕ → Result Timer Refusal
made now period =
    cond (ltb longest period) (Err BadSetting)
    (cond (leb instant_limit now) (Err BadTime)
    (Ok (started now period)))

unfoldable pub period_of : Timer → Result ℕ Refusal
period_of t = cond (not (kept t)) (Err BadState) (Ok t.period)

unfoldable pub next_instant : Timer → Result ℕ Refusal
next_instant t = cond (not (kept t)) (Err BadState) (Ok (t.last + t.period))

unfoldable pub reset : Timer → ℕ → Result Timer Refusal
reset t now =
    cond (not (kept t)) (Err BadState)
    (cond (leb instant_limit now) (Err BadTime)
    (Ok (timer t.period now)))

unfoldable pub set_period : Timer → ℕ → Result Timer Refusal
set_period t period =
    cond (ltb longest period) (Err BadSetting)
    (cond (not (kept t)) (Err BadState)
    (Ok (timer period t.last)))

unfoldable pub periods : Timer → ℕ → ℕ
periods t now = min most ((now - t.last) / t.period)

unfoldable pub ticked : Timer → ℕ → Ticked
ticked t now =
    cond (eqb t.period 0) (record { elapsed = Some 1; timer = t })
    (cond (ltb now (t.last + t.period)) (record { elapsed = None; timer = t })
    (record { elapsed = Some (periods t now); timer = timer t.period (t.last + periods t now * t.period) }))

unfoldable pub check_expired : Timer → ℕ → Result Ticked Refusal
check_expired t now =
    cond (not (kept t)) (Err BadState)
    (cond (leb instant_limit now) (Err BadTime) (Ok (ticked t now)))
