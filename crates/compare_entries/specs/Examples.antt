-- The meaning of each number of an answer, computed from the definitions. This catches errors that definition and code
-- have in common.
use Rattle.std.specs.Prelude.{◌≡◌, refl, true, Some, None, Ok, Err}
use Rattle.rules_packets.specs.declared.Place.TheVariants.{First}
use Rattle.rules_refusals.specs.declared.Refusal.TheVariants.{BadTime, TooLong, CountFull}
use Rattle.rules_timers.specs.Timer.{timer}
use Rattle.rules_pacing.specs.Kept.{new, kept}
use Rattle.rules_pacing.specs.Pacing.{on_input}
use Rattle.host_structs.specs.Senders.{next_of, mode_of}
use Rattle.compare_entries.specs.MessageAnswers.{nothing, piece_of}
use Rattle.compare_entries.specs.PacingAnswers.{fresh, pacing_answer, pacing_made, pacing_paced, pacing_new, pacing_on_input}
use Rattle.compare_entries.specs.TimerAnswers.{timer_answer, timer_checked}

pub record Examples : Type 0 where
  -- the three outcomes of a check: nothing, some periods, a refusal that leaves the timer unchanged
  pub quiet : timer_checked (timer 5 6) (Ok (record { elapsed = None; timer = timer 5 6 })) ≡ timer_answer 0 0 (timer 5 6)
  pub fired : timer_checked (timer 5 6) (Ok (record { elapsed = Some 2; timer = timer 5 16 })) ≡ timer_answer 0 2 (timer 5 16)
  pub late : timer_checked (timer 5 6) (Err BadTime) ≡ timer_answer 4 0 (timer 5 6)
  -- a packet, one past the last, a message that is too long
  pub packet : piece_of (Ok (Some (record { place = First; start = 0; len = 4 }))) ≡ record { refusal = 0; found = true; place = 2; start = 0; len = 4 }
  pub beyond : piece_of (Ok None) ≡ nothing 0
  pub long : piece_of (Err TooLong) ≡ nothing 5
  -- a number that isn't a mode: BadSetting in a new one, BadState in a kept one
  pub no_mode : pacing_new 4 0 0 ≡ pacing_answer 1 0 (fresh 4 0 0)
  pub kept-mode : pacing_on_input (fresh 4 0 0) 0 0 0 ≡ pacing_answer 3 0 (fresh 4 0 0)
  pub full : pacing_paced (fresh 2 8 0) (Err CountFull) ≡ pacing_answer 6 0 (fresh 2 8 0)

pub examples : Examples
unfolding timer_checked piece_of pacing_new pacing_on_input pacing_paced pacing_made next_of mode_of new on_input kept
examples =
    record {
      quiet = refl;
      fired = refl;
      late = refl;
      packet = refl;
      beyond = refl;
      long = refl;
      no_mode = refl;
      kept-mode = refl;
      full = refl;
    }
