-- The latest time by which the host must wake. Document 01, "Timers": "the next wake-up [is] as .. `next_timer`".
--   sooner on t i          the next instant of t, if it counts and is sooner than i
--   message_or m i         the next message's time, if it is known and sooner than i
--   wake ..                the earliest of these, but not before now; idle and statistics timers don't count
--   too_late, judge_next   the refusals, in the order of their numbers; the next message's time has the same limit as now
--   next_timer ..          the call
use Rattle.std.specs.Prelude.{Bool, true, false, not, ◌||◌, ℕ, ◌+◌, min, max, ltb, leb, Option, Some, None, Result, Ok, Err}
use Rattle.rules_refusals.specs.declared.Refusal.TheVariants.{BadState, BadTime}
use Rattle.rules_refusals.specs.Verdict.{Verdict, accepted, when, answer}
use Rattle.rules_timers.specs.declared.Timer.{Timer}
use Rattle.rules_timers.specs.Timer.{instant_limit}
use Rattle.rules_timers.specs.declared.Timers.{Timers}
use Rattle.rules_timers.specs.Timers.{kept_all}
use Rattle.rules_refusals.specs.declared.Refusal.{Refusal}

abbrev pub sooner : Bool → Timer → ℕ → ℕ
sooner true t instant = min (t.last + t.period) instant
sooner false t instant = instant

abbrev pub message_or : Option ℕ → ℕ → ℕ
message_or None instant = instant
message_or (Some time) instant = min time instant

unfoldable pub wake : Timers → ℕ → Bool → Option ℕ → ℕ → ℕ
wake ts now packets message unacked =
    max now
    (sooner packets ts.snd
    (sooner (ltb 0 unacked) ts.full_ack
    (message_or message
    (sooner true ts.exp (ts.nak.last + ts.nak.period)))))

abbrev pub too_late : Option ℕ → Bool
too_late None = false
too_late (Some time) = leb instant_limit time

unfoldable pub judge_next : Timers → ℕ → Option ℕ → Verdict
judge_next ts now message = when (not (kept_all ts)) BadState (when (leb instant_limit now || too_late message) BadTime accepted)

unfoldable pub next_timer : Timers → ℕ → Bool → Option ℕ → ℕ → Result ℕ Refusal
next_timer ts now packets message unacked =
    answer Err (judge_next ts now message) (Ok (wake ts now packets message unacked))
