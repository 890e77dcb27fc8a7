-- What an input does. Document 01, "Pacing", and row 6 of "Refusal numbers".
--   due next now                     whether an estimate is due
--   since next now count             the count since the last estimate
--   count_full s now packets bytes   whether this input would pass the most that may be counted
--   estimated s next now             the estimates due at next, made
--   moved s now                      next is set by the first input; later, estimates that are due are made (moved_at)
--   added s packets bytes            this input added to the counts
--   after s now packets bytes        what is kept after an accepted input
--   snd_period s                     the period given by the kept means
--   input s now packets bytes        the answer to an accepted input
--   on_input s now packets bytes     the answer to any input
use Rattle.std.specs.Prelude.{Bool, false, cond, not, ◌||◌, ℕ, ◌+◌, leb, Option, Some, None, Result, Ok, Err}
use Rattle.rules_numbers.specs.Limits.{time_limit}
use Rattle.rules_refusals.specs.declared.Refusal.TheVariants.{BadState, BadTime, CountFull}
use Rattle.rules_pacing.specs.declared.SenderCongestionControl.{SenderCongestionControl}
use Rattle.rules_pacing.specs.Rate.{elapsed, estimate, increment, passes}
use Rattle.rules_pacing.specs.Period.{allowed, period}
use Rattle.rules_pacing.specs.Kept.{kept, control}
use Rattle.rules_refusals.specs.declared.Refusal.{Refusal}

abbrev pub due : Option ℕ → ℕ → Bool
due None now = false
due (Some next) now = leb next now

-- "since the last estimate (one due now taken as made)"
abbrev pub since : Option ℕ → ℕ → ℕ → ℕ
since next now count = cond (due next now) 0 count

-- "packets or payload bytes .. with this message, pass 2^38"
unfoldable pub count_full : SenderCongestionControl → ℕ → ℕ → ℕ → Bool
count_full s now packets bytes =
    passes (since s.next now s.packets.count) packets || passes (since s.next now s.bytes.count) bytes

-- "Else .. next moves by it, and the estimate is made"
unfoldable pub estimated : SenderCongestionControl → ℕ → ℕ → SenderCongestionControl
estimated s next now =
    let time = elapsed now next in
    control (Some (next + time)) (estimate time s.packets) (estimate time s.bytes) s.bandwidth_mode

-- "First input sets next = now + 100,000 and gives nothing. Before next: nothing."
unfoldable pub moved_at : Option ℕ → SenderCongestionControl → ℕ → SenderCongestionControl
moved_at None s now = control (Some (now + 100_000)) s.packets s.bytes s.bandwidth_mode
moved_at (Some next) s now = cond (leb next now) (estimated s next now) s

unfoldable pub moved : SenderCongestionControl → ℕ → SenderCongestionControl
moved s now = moved_at s.next s now

unfoldable pub added : SenderCongestionControl → ℕ → ℕ → SenderCongestionControl
added s packets bytes = control s.next (increment s.packets packets) (increment s.bytes bytes) s.bandwidth_mode

-- "the estimate is made before this input is added"
unfoldable pub after : SenderCongestionControl → ℕ → ℕ → ℕ → SenderCongestionControl
after s now packets bytes = added (moved s now) packets bytes

-- "measured, byte rate and packet rate are the new means"
unfoldable pub snd_period : SenderCongestionControl → ℕ
snd_period s = period (allowed s.bandwidth_mode s.bytes.mean) s.bytes.mean s.packets.mean

unfoldable pub input : SenderCongestionControl → ℕ → ℕ → ℕ → Result (Option ℕ × SenderCongestionControl) Refusal
input s now packets bytes =
    cond (due s.next now) (Ok (Some (snd_period (moved s now)), after s now packets bytes)) (Ok (None, after s now packets bytes))

-- "The lowest that applies is given": 3, 4, 6
unfoldable pub on_input : SenderCongestionControl → ℕ → ℕ → ℕ → Result (Option ℕ × SenderCongestionControl) Refusal
on_input s now packets bytes =
    cond (not (kept s)) (Err BadState)
    (cond (leb time_limit now) (Err BadTime)
    (cond (count_full s now packets bytes) (Err CountFull) (input s now packets bytes)))
