-- Worked examples, computed by hand from document 01, "Pacing". They catch errors that definition and code have in
-- common.
--   starts                  pacing at the start
--   inputs                  four inputs, one after the other: next unset, before next, at next, a whole period after it
--   four-modes, mode-ends   allowed rates, and the ends of a mode's ranges
--   periods                 a period; one held at each end; a divisor of 0
--   count-ends              the most that may be counted, before next and at it
--   lowest                  the order of the refusals
--   books                   the book rules at their ends
use Rattle.std.specs.Prelude.{◌≡◌, refl, true, false, ℕ, ◌+◌, ◌-◌, ◌^◌, Some, None, Ok, Err}
use Rattle.rules_refusals.specs.declared.Refusal.TheVariants.{BadSetting, BadState, BadTime, CountFull}
use Rattle.rules_pacing.specs.declared.LiveBandwidthMode.TheVariants.{Input, Estimated, Max, Unlimited}
use Rattle.rules_pacing.specs.declared.RateEstimation.{RateEstimation}
use Rattle.rules_pacing.specs.declared.SenderCongestionControl.{SenderCongestionControl}
use Rattle.rules_pacing.specs.Rate.{new_mean, estimate}
use Rattle.rules_pacing.specs.Period.{allowed, period, mode_in_range}
use Rattle.rules_pacing.specs.Kept.{kept, control, fresh, new}
use Rattle.rules_pacing.specs.Pacing.{count_full, estimated, moved_at, moved, added, after, snd_period, input, on_input}

abbrev est : ℕ → ℕ → ℕ → RateEstimation
est count mean variance = record { count = count; mean = mean; variance = variance }

abbrev at : ℕ → RateEstimation → RateEstimation → SenderCongestionControl
at next packets bytes = control (Some next) packets bytes (Max 1_000_000)

-- "1 BadSetting, a setting is outside its range"; "First input sets next": before it there is none
pub starts :
    (new (Max (2 ^ 40)) ≡ Ok (control None (est 0 0 0) (est 0 0 0) (Max (2 ^ 40))))
    × (new (Max (2 ^ 40 + 1)) ≡ Err BadSetting)
unfolding new
starts = (refl, refl)

-- 5 packets and 5,000 bytes in 100,000 µs are 50 and 50,000 per second, 1,000 bytes a packet: 1,000 µs; the third input
-- counts from there on. Over 200,000 µs it gives 5 and 5,000, below the means: (350 + 5) / 8 and (350,000 + 5,000) / 8;
-- 39 / 4 and 39,375 / 4; 44,375 / 44.
pub inputs :
    (on_input (fresh (Max 1_000_000)) 1_000 2 2_000 ≡ Ok (None, at 101_000 (est 2 0 0) (est 2_000 0 0)))
    × (on_input (at 101_000 (est 2 0 0) (est 2_000 0 0)) 100_999 3 3_000 ≡ Ok (None, at 101_000 (est 5 0 0) (est 5_000 0 0)))
    × (on_input (at 101_000 (est 5 0 0) (est 5_000 0 0)) 101_000 1 1_000 ≡ Ok (Some 1_000, at 201_000 (est 1 50 0) (est 1_000 50_000 0)))
    × (on_input (at 201_000 (est 1 50 0) (est 1_000 50_000 0)) 301_000 0 0 ≡ Ok (Some 1_008, at 401_000 (est 0 44 9) (est 0 44_375 9_843)))
unfolding on_input kept count_full input after added moved moved_at estimated estimate new_mean snd_period period
inputs = (refl, refl, refl, refl)

-- 999 × 125 / 100; max(1,000, 3,000) × 150 / 100 and max(5,000, 3,000) × 150 / 100; the maximum; a gigabit
pub four-modes :
    (allowed (Input 999 25) 3_000 ≡ 1_248)
    × (allowed (Estimated 1_000 50) 3_000 ≡ 4_500)
    × (allowed (Estimated 5_000 50) 3_000 ≡ 7_500)
    × (allowed (Max 777) 3_000 ≡ 777)
    × (allowed Unlimited 3_000 ≡ 125_000_000)
four-modes = (refl, refl, refl, refl, refl)

-- "Rates to 2^40, overhead to 10,000."
pub mode-ends :
    (mode_in_range (Input (2 ^ 40) 10_000) ≡ true)
    × (mode_in_range (Input (2 ^ 40 + 1) 0) ≡ false)
    × (mode_in_range (Input 0 10_001) ≡ false)
    × (mode_in_range (Estimated (2 ^ 40) 10_000) ≡ true)
    × (mode_in_range (Estimated (2 ^ 40 + 1) 0) ≡ false)
    × (mode_in_range (Estimated 0 10_001) ≡ false)
    × (mode_in_range (Max (2 ^ 40 + 1)) ≡ false)
mode-ends = (refl, refl, refl, refl, refl, refl, refl)

-- 1,000,000 × floor(2,999 / 2) / 1,000; above 10^12; below 1; allowed 0; packet rate 0
pub periods :
    (period 1_000 2_999 2 ≡ 1_499_000)
    × (period 1 1_000_001 1 ≡ 10 ^ 12)
    × (period 125_000_000 100 1 ≡ 1)
    × (period 0 5 5 ≡ 1)
    × (period 5 5 0 ≡ 1)
unfolding period
periods = (refl, refl, refl, refl, refl)

-- ".. with this message, pass 2^38": reached, passed, and "one due now taken as made"; passed by bytes
pub count-ends :
    (count_full (at 9 (est 1 0 0) (est 0 0 0)) 8 (2 ^ 38 - 1) 0 ≡ false)
    × (count_full (at 9 (est 1 0 0) (est 0 0 0)) 8 (2 ^ 38) 0 ≡ true)
    × (count_full (at 9 (est 1 0 0) (est 0 0 0)) 9 (2 ^ 38) 0 ≡ false)
    × (count_full (at 9 (est 0 0 0) (est 1 0 0)) 8 0 (2 ^ 38) ≡ true)
unfolding count_full
count-ends = (refl, refl, refl, refl)

-- "The lowest that applies is given"
pub lowest :
    (on_input (at (2 ^ 49) (est 0 0 0) (est 0 0 0)) (2 ^ 48) (2 ^ 39) 0 ≡ Err BadState)
    × (on_input (at (2 ^ 49 - 1) (est 0 0 0) (est 0 0 0)) (2 ^ 48) (2 ^ 39) 0 ≡ Err BadTime)
    × (on_input (at 9 (est 1 0 0) (est 0 0 0)) 8 (2 ^ 38) 0 ≡ Err CountFull)
    × (on_input (fresh (Max 5)) (2 ^ 48 - 1) 0 0 ≡ Ok (None, control (Some (2 ^ 48 + 99_999)) (est 0 0 0) (est 0 0 0) (Max 5)))
unfolding on_input kept count_full input after added moved moved_at
lowest = (refl, refl, refl, refl)

-- measured is the bytes' mean: 1,000,000 × floor(30,000 / 10) / (max(1,000, 30,000) × 150 / 100)
pub measured : snd_period (control (Some 9) (est 0 10 0) (est 0 30_000 0) (Estimated 1_000 50)) ≡ 66_666
unfolding snd_period period
measured = refl

-- "its counts at most 2^38, means and variances at most 2^42": of packets, of bytes, and a mode in its ranges
pub books :
    (kept (at 9 (est (2 ^ 38) (2 ^ 42) (2 ^ 42)) (est (2 ^ 38) (2 ^ 42) (2 ^ 42))) ≡ true)
    × (kept (at 9 (est (2 ^ 38 + 1) 0 0) (est 0 0 0)) ≡ false)
    × (kept (at 9 (est 0 0 0) (est 0 (2 ^ 42 + 1) 0)) ≡ false)
    × (kept (control None (est 0 0 0) (est 0 0 0) (Max (2 ^ 40 + 1))) ≡ false)
unfolding kept
books = (refl, refl, refl, refl)
