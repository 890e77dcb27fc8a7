-- The book rules of the timers hold after every check: document 01, "Book rules". A refused call changes nothing.
--   Checked a               the timers in an answer keep the rules
--   check-kept, idle-kept   so they do after a check of one timer, and of the idle timer
use Rattle.std.specs.Prelude.{ℕ, ◌<◌, ltb, Option, Some, None, Result, Ok, Err}
use native.Mathlib.Omega.{arith}
use Rattle.laws.specs.Choice.{cond-by}
use Rattle.refusals.specs.Laws.{answer-by}
use Rattle.rules_timers.specs.declared.Timer.{Timer}
use Rattle.rules_timers.specs.Timer.{instant_limit, ticked}
use Rattle.timer.specs.Laws.{Kept, tick_kept}
use Rattle.rules_timers.specs.declared.Timers.{Timers}
use Rattle.rules_timers.specs.Timers.{judge}
use Rattle.timers.specs.Laws.{KeptAll, accepted_timed}
use Rattle.rules_timers.specs.declared.Which.{Which}
use Rattle.rules_timers.specs.declared.Which.TheVariants.{Snd, FullAck, Nak, Statistics}
use Rattle.rules_timers.specs.Checks.{timer_of, with_timer, check, heard, expired, idle_after, idle, check_peer_idle_timeout}
use Rattle.rules_refusals.specs.declared.Refusal.{Refusal}

abbrev pub Checked : Result (Option ℕ × Timers) Refusal → Type 0
Checked (Ok (e, ts)) = KeptAll ts
Checked (Err r) = Unit {0}

module _ (ts : Timers) (now : ℕ) where
  pub check-kept : (which : Which) → Checked (check which ts now)
  unfolding check
  check-kept which =
      answer-by Checked Err (judge ts now) _ (λ r. tt)
      (λ e. let k = accepted_timed ts now e in put which _ k.0 (tick_kept (timer_of which ts) now k.1 (of which k.0)))
    where
      of : (w : Which) → KeptAll ts → Kept (timer_of w ts)
      of Snd k = k.snd
      of FullAck k = k.ack
      of Nak k = k.nak
      of Statistics k = k.statistics

      put : (w : Which) (t : Timer) → KeptAll ts → Kept t → KeptAll (with_timer w t ts)
      put Snd t k h = record { snd = h; ack = k.ack; nak = k.nak; exp = k.exp; idle = k.idle; statistics = k.statistics; count = k.count }
      put FullAck t k h = record { snd = k.snd; ack = h; nak = k.nak; exp = k.exp; idle = k.idle; statistics = k.statistics; count = k.count }
      put Nak t k h = record { snd = k.snd; ack = k.ack; nak = h; exp = k.exp; idle = k.idle; statistics = k.statistics; count = k.count }
      put Statistics t k h = record { snd = k.snd; ack = k.ack; nak = k.nak; exp = k.exp; idle = k.idle; statistics = h; count = k.count }

  after_kept : (exp : Timer) → KeptAll ts → Kept exp → now < instant_limit → Checked (idle_after ts exp now)
  unfolding idle_after
  after_kept exp k x h =
      let i = tick_kept ts.peer_idle now h k.idle in
      cond-by Checked (heard (ticked ts.peer_idle now).elapsed (ltb 16 ts.exp_count)) _ _
      (λ e. record { snd = k.snd; ack = k.ack; nak = k.nak; exp = x; idle = i; statistics = k.statistics; count = k.count })
      (λ e. record { snd = k.snd; ack = k.ack; nak = k.nak; exp = x; idle = i; statistics = k.statistics; count = omega arith })

  pub idle-kept : Checked (check_peer_idle_timeout ts now)
  unfolding check_peer_idle_timeout idle
  idle-kept =
      answer-by Checked Err (judge ts now) _ (λ r. tt)
      (λ e. let k = accepted_timed ts now e in
      by (ticked ts.exp now).elapsed _ k.0 (after_kept _ k.0 (tick_kept ts.exp now k.1 k.0.exp) k.1))
    where
      by : (e : Option ℕ) (a : Result (Option ℕ × Timers) Refusal) → KeptAll ts → Checked a → Checked (expired e (Ok (None, ts)) a)
      by None a k h = k
      by (Some n) a k h = h
