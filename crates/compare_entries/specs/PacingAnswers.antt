-- The answers of pacing as numbers.
--   fresh mode rate overhead        new pacing, as numbers
--   pacing_answer r n p             an answer from its three fields
--   pacing_made, pacing_paced p a   the answers of `new` and `on_input`: 0, the period (0 for none) and the new numbers;
--                                   or the refusal's number and p unchanged
--   pacing_new, pacing_on_input     the calls
use Rattle.std.specs.Prelude.{ℕ, Option, unwrap_or, Result, Ok, Err}
use Rattle.rules_refusals.specs.Table.{number_of}
use Rattle.rules_pacing.specs.Kept as books
use Rattle.rules_pacing.specs.Pacing.{on_input}
use Rattle.host_structs.specs.declared.pacings.FlatPacing.{FlatPacing}
use Rattle.host_structs.specs.Senders.{mode_of, control_of, pacing_from}
use Rattle.compare_entries.specs.declared.of_pacing.PacingAnswer.{PacingAnswer}
use Rattle.rules_refusals.specs.declared.Refusal.{Refusal}
use Rattle.rules_pacing.specs.declared.SenderCongestionControl.{SenderCongestionControl}

abbrev pub fresh : ℕ → ℕ → ℕ → FlatPacing
fresh mode rate overhead = record { mode = mode; begun = 0; rate = rate; overhead = overhead; next = 0; packets = books.none; bytes = books.none }

abbrev pub pacing_answer : ℕ → ℕ → FlatPacing → PacingAnswer
pacing_answer refusal period pacing = record { refusal = refusal; period = period; pacing = pacing }

unfoldable pub pacing_made : FlatPacing → Result SenderCongestionControl Refusal → PacingAnswer
pacing_made p (Ok c) = pacing_answer 0 0 (pacing_from c)
pacing_made p (Err refusal) = pacing_answer (number_of refusal) 0 p

unfoldable pub pacing_paced : FlatPacing → Result (Option ℕ × SenderCongestionControl) Refusal → PacingAnswer
pacing_paced p (Ok (period, c)) = pacing_answer 0 (unwrap_or period 0) (pacing_from c)
pacing_paced p (Err refusal) = pacing_answer (number_of refusal) 0 p

unfoldable pub pacing_new : ℕ → ℕ → ℕ → PacingAnswer
pacing_new mode rate overhead = pacing_made (fresh mode rate overhead) (books.new (mode_of mode rate overhead))

unfoldable pub pacing_on_input : FlatPacing → ℕ → ℕ → ℕ → PacingAnswer
pacing_on_input p now packets bytes = pacing_paced p (on_input (control_of p) now packets bytes)
