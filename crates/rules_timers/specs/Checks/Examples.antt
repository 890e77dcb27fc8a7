-- Worked examples of the checks and the next wake-up, from document 01, "Timers", and the Rust's time/mod.rs. They
-- catch errors that definition and code have in common.
use Rattle.std.specs.Prelude.{◌≡◌, refl, true, false, ℕ, ◌-◌, ◌^◌, Some, None, Ok, Err}
use Rattle.rules_refusals.specs.declared.Refusal.TheVariants.{BadState, BadTime}
use Rattle.rules_timers.specs.Timer.{timer, ticked, periods}
use Rattle.rules_timers.specs.declared.Timers.{Timers}
use Rattle.rules_timers.specs.Timers.{timers, judge}
use Rattle.rules_timers.specs.Checks.{check, check_snd, check_full_ack, check_nak, check_statistics, idle, idle_after, check_peer_idle_timeout}
use Rattle.rules_timers.specs.Wake.{wake, judge_next, next_timer}

-- timers that all start at 0, with EXP at 10, idle at 15 and this EXP count
abbrev quiet : ℕ → Timers
quiet count = timers (timer 5 0) (timer 6 0) (timer 70 0) (timer 10 0) count (timer 15 0) (timer 90 0)

-- timers with origins of their own, due at 105 (SND), 206 (ACK), NAK's own instant, 1,300 (EXP)
abbrev spread : ℕ → Timers
spread nak = timers (timer 5 100) (timer 6 200) (timer nak 7) (timer 1_000 300) 1 (timer 15 0) (timer 90 0)

pub record Examples : Type 0 where
  -- a check reports on its own timer and moves that one; 3 before 4
  pub snd : check_snd (quiet 1) 90 ≡ Ok (Some 18, timers (timer 5 90) (timer 6 0) (timer 70 0) (timer 10 0) 1 (timer 15 0) (timer 90 0))
  pub full-ack : check_full_ack (quiet 1) 90 ≡ Ok (Some 15, timers (timer 5 0) (timer 6 90) (timer 70 0) (timer 10 0) 1 (timer 15 0) (timer 90 0))
  pub nak : check_nak (quiet 1) 90 ≡ Ok (Some 1, timers (timer 5 0) (timer 6 0) (timer 70 70) (timer 10 0) 1 (timer 15 0) (timer 90 0))
  pub statistics : check_statistics (quiet 1) 90 ≡ Ok (Some 1, timers (timer 5 0) (timer 6 0) (timer 70 0) (timer 10 0) 1 (timer 15 0) (timer 90 90))
  pub late : check_nak (quiet 1) (2 ^ 58) ≡ Err BadTime
  pub damaged : check_nak (quiet 0) (2 ^ 58) ≡ Err BadState
  pub idle-damaged : check_peer_idle_timeout (quiet 0) 20 ≡ Err BadState
  -- EXP not expired: nothing moves. Expired: it moves on, the idle timer too, even unreported, and the count goes up
  pub exp-quiet : idle (quiet 1) 9 ≡ Ok (None, quiet 1)
  pub idle_silent : idle (quiet 16) 20 ≡ Ok (None, timers (timer 5 0) (timer 6 0) (timer 70 0) (timer 10 20) 17 (timer 15 15) (timer 90 0))
  pub idle-heard : idle (quiet 17) 20 ≡ Ok (Some 1, timers (timer 5 0) (timer 6 0) (timer 70 0) (timer 10 20) 17 (timer 15 15) (timer 90 0))
  -- a count over 16 isn't enough: the idle timer must have expired
  pub idle-not_yet : idle (quiet 17) 10 ≡ Ok (None, timers (timer 5 0) (timer 6 0) (timer 70 0) (timer 10 10) 18 (timer 15 0) (timer 90 0))
  -- the idle timer is checked at now, and not where EXP has moved to: 47 is three periods of 15, 40 would be two
  pub idle-at_now : idle (quiet 17) 47 ≡ Ok (Some 3, timers (timer 5 0) (timer 6 0) (timer 70 0) (timer 10 40) 17 (timer 15 45) (timer 90 0))
  pub count_held : idle (quiet 4_294_967_295) 10 ≡ Ok (None, timers (timer 5 0) (timer 6 0) (timer 70 0) (timer 10 10) 4_294_967_295 (timer 15 0) (timer 90 0))
  -- the next wake-up: EXP and NAK always count, ACK only with packets unacknowledged, SND only with packets to send
  pub wake-exp : wake (quiet 1) 3 false None 0 ≡ 10
  pub wake-message : wake (quiet 1) 3 false (Some 8) 0 ≡ 8
  pub wake-later-message : wake (quiet 1) 3 false (Some 12) 0 ≡ 10
  pub wake-ack : wake (quiet 1) 3 false (Some 8) 1 ≡ 6
  pub wake-snd : wake (quiet 1) 3 true (Some 8) 1 ≡ 5
  -- an instant is origin + period: NAK first, EXP first, ACK and SND with their own
  pub wake-nak_instant : wake (spread 700) 3 false None 0 ≡ 707
  pub wake-exp_instant : wake (spread 7_000) 3 false None 0 ≡ 1_300
  pub wake-ack_instant : wake (spread 700) 3 false None 1 ≡ 206
  pub wake-snd_instant : wake (spread 700) 3 true None 1 ≡ 105
  pub wake_now : wake (quiet 1) 9 true (Some 8) 1 ≡ 9
  -- now and the message's time must be below 2^58
  pub next_last : next_timer (quiet 1) 3 false (Some (2 ^ 58 - 1)) 0 ≡ Ok 10
  pub next-late-message : next_timer (quiet 1) 3 false (Some (2 ^ 58)) 0 ≡ Err BadTime
  pub next-late : next_timer (quiet 1) (2 ^ 58) false None 0 ≡ Err BadTime
  pub next-origin : next_timer (timers (timer 5 (2 ^ 58)) (timer 6 0) (timer 70 0) (timer 10 0) 1 (timer 15 0) (timer 90 0)) 3 false None 0 ≡ Err BadState
  pub next-damaged : next_timer (quiet 0) (2 ^ 58) false None 0 ≡ Err BadState

pub examples : Examples
unfolding check judge check_peer_idle_timeout idle idle_after ticked periods wake judge_next next_timer
examples =
    record {
      snd = refl;
      full-ack = refl;
      nak = refl;
      statistics = refl;
      late = refl;
      damaged = refl;
      idle-damaged = refl;
      exp-quiet = refl;
      idle_silent = refl;
      idle-heard = refl;
      idle-not_yet = refl;
      idle-at_now = refl;
      count_held = refl;
      wake-exp = refl;
      wake-message = refl;
      wake-later-message = refl;
      wake-ack = refl;
      wake-snd = refl;
      wake-nak_instant = refl;
      wake-exp_instant = refl;
      wake-ack_instant = refl;
      wake-snd_instant = refl;
      wake_now = refl;
      next_last = refl;
      next-late-message = refl;
      next-late = refl;
      next-origin = refl;
      next-damaged = refl;
    }
