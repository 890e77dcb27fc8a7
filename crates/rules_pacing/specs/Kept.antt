-- What pacing keeps, and pacing at the start. Document 01, "Book rules" and "Pacing".
--   next_in_range next   whether next is in range
--   kept s               whether s keeps the book rules
--   control, none        the kept state from its parts; an estimation with nothing counted
--   fresh mode           pacing at the start
--   new mode             the answer of the call: BadSetting where a rate or the overhead is out of range
use Rattle.std.specs.Prelude.{Bool, true, cond, ◌&&◌, ◌^◌, ltb, Option, Some, None, Result, Ok, Err, ℕ}
use Rattle.rules_refusals.specs.declared.Refusal.TheVariants.{BadSetting}
use Rattle.rules_pacing.specs.declared.LiveBandwidthMode.{LiveBandwidthMode}
use Rattle.rules_pacing.specs.declared.RateEstimation.{RateEstimation}
use Rattle.rules_pacing.specs.declared.SenderCongestionControl.{SenderCongestionControl}
use Rattle.rules_pacing.specs.Rate.{in_range}
use Rattle.rules_pacing.specs.Period.{mode_in_range}
use Rattle.rules_refusals.specs.declared.Refusal.{Refusal}

-- "pacing's next below 2^49"
abbrev pub next_in_range : Option ℕ → Bool
next_in_range None = true
next_in_range (Some next) = ltb next (2 ^ 49)

unfoldable pub kept : SenderCongestionControl → Bool
kept s = next_in_range s.next && in_range s.packets && in_range s.bytes && mode_in_range s.bandwidth_mode

abbrev pub control : Option ℕ → RateEstimation → RateEstimation → LiveBandwidthMode → SenderCongestionControl
control next packets bytes mode = record { next = next; packets = packets; bytes = bytes; bandwidth_mode = mode }

abbrev pub none : RateEstimation
none = record { count = 0; mean = 0; variance = 0 }

abbrev pub fresh : LiveBandwidthMode → SenderCongestionControl
fresh mode = control None none none mode

unfoldable pub new : LiveBandwidthMode → Result SenderCongestionControl Refusal
new mode = cond (mode_in_range mode) (Ok (fresh mode)) (Err BadSetting)
