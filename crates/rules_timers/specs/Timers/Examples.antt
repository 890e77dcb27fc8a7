-- Worked examples of the calls that make and set the timers, from document 01, "Timers" and "Refusal numbers", and the
-- Rust's time/mod.rs. They catch errors that definition and code have in common.
use Rattle.std.specs.Prelude.{◌≡◌, refl, ℕ, ◌+◌, ◌^◌, Ok, Err}
use Rattle.rules_refusals.specs.declared.Refusal.TheVariants.{BadSetting, BadState, BadTime, BadRtt}
use Rattle.rules_numbers.specs.declared.Rtt.{Rtt}
use Rattle.rules_timers.specs.Periods.{exp_period}
use Rattle.rules_timers.specs.Timer.{timer}
use Rattle.rules_timers.specs.declared.Timers.{Timers}
use Rattle.rules_timers.specs.Timers.{timers, judge, judge_new, judge_period, judge_rtt, new, update_snd_period, update_rtt, reset_exp}

-- each timer with its own origin, and this EXP count; a count of 0 breaks the book rules
abbrev each : ℕ → Timers
each count = timers (timer 5 1) (timer 6 2) (timer 70 3) (timer 10 4) count (timer 15 6) (timer 90 7)

abbrev rtt : ℕ → ℕ → Rtt
rtt mean variance = record { mean = mean; variance = variance }

pub record Examples : Type 0 where
  -- SND is 1 ms; ACK, NAK and EXP follow from the RTT at the start; the two intervals are as given
  pub made : new 8 4_000_000 3_000_000
      ≡ Ok (timers (timer 1_000_000 8) (timer 10_000_000 8) (timer 150_000_000 8) (timer 460_000_000 8) 1 (timer 3_000_000 8) (timer 4_000_000 8))
  -- a new period keeps the origin; an RTT sets three periods, EXP's by its count: max(2 × (4 + 0 + 10) ms, 2 × 300 ms)
  pub snd-set : update_snd_period (each 2) 9 ≡ Ok (timers (timer 9 1) (timer 6 2) (timer 70 3) (timer 10 4) 2 (timer 15 6) (timer 90 7))
  pub rtt-set : update_rtt (each 2) (rtt 1_000 0)
      ≡ Ok (timers (timer 5 1) (timer 10_000_000 2) (timer 20_000_000 3) (timer 600_000_000 4) 2 (timer 15 6) (timer 90 7))
  -- the count starts again at 1 and the idle timer at now; EXP's own origin stays
  pub exp-reset : reset_exp (each 2) 99 ≡ Ok (timers (timer 5 1) (timer 6 2) (timer 70 3) (timer 10 4) 1 (timer 15 99) (timer 90 7))
  -- each refusal; "The lowest that applies is given": 1 before 3, 1 before 4, 3 before 4, 3 before 8
  pub long-statistics : new (2 ^ 58) (10 ^ 15 + 1) 0 ≡ Err BadSetting
  pub long-idle : new 0 0 (10 ^ 15 + 1) ≡ Err BadSetting
  pub late : new (2 ^ 58) 0 0 ≡ Err BadTime
  pub late-reset : reset_exp (each 1) (2 ^ 58) ≡ Err BadTime
  pub bad-rtt : update_rtt (each 1) (rtt 0 100_000_001) ≡ Err BadRtt
  pub lowest-setting : update_snd_period (each 0) (10 ^ 15 + 1) ≡ Err BadSetting
  pub lowest-state : update_rtt (each 0) (rtt 100_000_001 0) ≡ Err BadState
  pub lowest-time : reset_exp (each 0) (2 ^ 58) ≡ Err BadState
  -- a timer that breaks a book rule, whichever it is
  pub bad-snd : reset_exp (timers (timer 5 (2 ^ 58)) (timer 6 2) (timer 70 3) (timer 10 4) 1 (timer 15 6) (timer 90 7)) 9 ≡ Err BadState
  pub bad-ack : reset_exp (timers (timer 5 1) (timer 6 (2 ^ 58)) (timer 70 3) (timer 10 4) 1 (timer 15 6) (timer 90 7)) 9 ≡ Err BadState
  pub bad-nak : reset_exp (timers (timer 5 1) (timer 6 2) (timer 70 (2 ^ 58)) (timer 10 4) 1 (timer 15 6) (timer 90 7)) 9 ≡ Err BadState
  pub bad-exp : reset_exp (timers (timer 5 1) (timer 6 2) (timer 70 3) (timer 10 (2 ^ 58)) 1 (timer 15 6) (timer 90 7)) 9 ≡ Err BadState
  pub bad-statistics : reset_exp (timers (timer 5 1) (timer 6 2) (timer 70 3) (timer 10 4) 1 (timer 15 6) (timer 90 (2 ^ 58))) 9 ≡ Err BadState
  pub set-damaged : update_snd_period (each 0) 5 ≡ Err BadState
  pub bad-idle : reset_exp (timers (timer 5 1) (timer 6 2) (timer 70 3) (timer 10 4) 1 (timer 15 (2 ^ 58)) (timer 90 7)) 9 ≡ Err BadState

pub examples : Examples
unfolding new judge_new update_snd_period judge_period update_rtt judge_rtt reset_exp judge exp_period
examples =
    record {
      made = refl;
      snd-set = refl;
      rtt-set = refl;
      exp-reset = refl;
      long-statistics = refl;
      long-idle = refl;
      late = refl;
      late-reset = refl;
      bad-rtt = refl;
      lowest-setting = refl;
      lowest-state = refl;
      lowest-time = refl;
      bad-snd = refl;
      bad-ack = refl;
      bad-nak = refl;
      bad-exp = refl;
      bad-statistics = refl;
      set-damaged = refl;
      bad-idle = refl;
    }
