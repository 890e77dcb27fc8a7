-- Worked examples of one timer, from document 01, "Timers". They catch errors that definition and code have in common.
use Rattle.std.specs.Prelude.{◌≡◌, refl, ◌+◌, ◌-◌, ◌^◌, Some, None, Ok, Err}
use Rattle.rules_refusals.specs.declared.Refusal.TheVariants.{BadSetting, BadState, BadTime}
use Rattle.rules_timers.specs.Timer.{timer, made, period_of, next_instant, reset, set_period, ticked, periods, check_expired}

pub record Examples : Type 0 where
  -- "A new timer's period is at least 1,000; a set one may be 0"
  pub raised : made 7 999 ≡ Ok (timer 1_000 7)
  pub not-raised : set_period (timer 1_000 7) 0 ≡ Ok (timer 0 7)
  -- "periods to 10^15 (BadSetting above)"; "nanoseconds below 2^58"
  pub longest_in : made 7 1_000_000_000_000_000 ≡ Ok (timer 1_000_000_000_000_000 7)
  pub longer : made 7 1_000_000_000_000_001 ≡ Err BadSetting
  pub last-time : made (2 ^ 58 - 1) 1_000 ≡ Ok (timer 1_000 (2 ^ 58 - 1))
  pub too_late : made (2 ^ 58) 1_000 ≡ Err BadTime
  -- what is read; a reset changes the origin only
  pub period_read : period_of (timer 10 7) ≡ Ok 10
  pub instant_read : next_instant (timer 10 7) ≡ Ok 17
  pub reset-origin : reset (timer 10 7) 9 ≡ Ok (timer 10 9)
  -- "The lowest that applies is given": 1 before 3 and 4, 3 before 4
  pub long-and-late : made (2 ^ 58) 1_000_000_000_000_001 ≡ Err BadSetting
  pub set_long : set_period (timer 1_000 7) 1_000_000_000_000_001 ≡ Err BadSetting
  pub set-long-damaged : set_period (timer 1_000 (2 ^ 58)) 1_000_000_000_000_001 ≡ Err BadSetting
  pub set-damaged : set_period (timer 1_000 (2 ^ 58)) 5 ≡ Err BadState
  pub reset-damaged : reset (timer 1_000 (2 ^ 58)) (2 ^ 58) ≡ Err BadState
  pub reset-late : reset (timer 1_000 7) (2 ^ 58) ≡ Err BadTime
  pub period-damaged : period_of (timer 10 (2 ^ 58)) ≡ Err BadState
  pub instant_damaged : next_instant (timer (10 ^ 15 + 1) 7) ≡ Err BadState
  -- a check's refusals: 3 before 4; "timer origins below 2^58, periods at most 10^15"
  pub check-late : check_expired (timer 10 7) (2 ^ 58) ≡ Err BadTime
  pub check-origin : check_expired (timer 10 (2 ^ 58)) (2 ^ 58) ≡ Err BadState
  pub check-period : check_expired (timer (10 ^ 15 + 1) 7) 8 ≡ Err BadState
  -- "always answers 1 and doesn't move"
  pub zero-period : ticked (timer 0 7) 100 ≡ record { elapsed = Some 1; timer = timer 0 7 }
  -- "nothing before origin + period, and from then on floor(elapsed / period) .. and the origin moves by that many
  -- periods"
  pub before : ticked (timer 10 7) 16 ≡ record { elapsed = None; timer = timer 10 7 }
  pub just : ticked (timer 10 7) 17 ≡ record { elapsed = Some 1; timer = timer 10 17 }
  pub more : ticked (timer 10 7) 36 ≡ record { elapsed = Some 2; timer = timer 10 27 }
  -- "held at 2^32 − 1"
  pub held : ticked (timer 1 0) (2 ^ 40) ≡ record { elapsed = Some 4_294_967_295; timer = timer 1 4_294_967_295 }

pub examples : Examples
unfolding made period_of next_instant reset set_period ticked periods check_expired
examples =
    record {
      raised = refl;
      not-raised = refl;
      longest_in = refl;
      longer = refl;
      last-time = refl;
      too_late = refl;
      period_read = refl;
      instant_read = refl;
      reset-origin = refl;
      long-and-late = refl;
      set_long = refl;
      set-long-damaged = refl;
      set-damaged = refl;
      reset-damaged = refl;
      reset-late = refl;
      period-damaged = refl;
      instant_damaged = refl;
      check-late = refl;
      check-origin = refl;
      check-period = refl;
      zero-period = refl;
      before = refl;
      just = refl;
      more = refl;
      held = refl;
    }
