-- An ACK on the sender and its lent areas. Document 01, "ACK", and refusals 2, 3 and 7 to 11: "All stays as before; 11
-- alone keeps a new RTT."
--   ack_verdict g n rtt   refusals 2, 3, 7 and 8; the crate buffer_ack tests the others
--   acknowledged s a      the sender with the books after an ACK
--   ack                   the call. The lent areas are only read
pub mod Laws
pub mod Stands
use Rattle.std.specs.Prelude.{ℕ, ◌^◌, leb, Option, Result, Ok, Err}
use Rattle.rules_refusals.specs.declared.Refusal.TheVariants.{BadNumber, BadRtt}
use Rattle.rules_refusals.specs.Verdict.{Verdict, accepted, when, answer}
use Rattle.rules.specs.Refusals.{bad_rtt}
use Rattle.buffer_ack.specs.Ack.{update}
use Rattle.sender.specs.declared.Sender.{Sender}
use Rattle.sender.specs.SenderAndAreas.{Books, state_of, rules_of, judge_areas}
use Rattle.sender.specs.Calls.{sender_of, then}
use Rattle.rules_refusals.specs.declared.Refusal.{Refusal}
use Rattle.buffer_ack.specs.declared.AckAction.{AckAction}
use Rattle.buffer.specs.declared.SendBuffer.{SendBuffer}
use Rattle.rules_numbers.specs.declared.Rtt.{Rtt}

-- row 7, BadNumber: "a sequence number is 2^31 or more"; row 8, BadRtt: "mean or variance over its range"
unfoldable pub ack_verdict : Books → ℕ → Option Rtt → Verdict
ack_verdict g n rtt =
    then (judge_areas g)
    (when (leb (2 ^ 31) n) BadNumber (when (bad_rtt rtt) BadRtt accepted))

abbrev pub acknowledged : Sender → Result (SendBuffer × AckAction) (SendBuffer × Refusal) → Result (Sender × AckAction) (Sender × Refusal)
acknowledged s (Ok (b, a)) = Ok (sender_of s.settings b s.pacing, a)
acknowledged s (Err (b, r)) = Err (sender_of s.settings b s.pacing, r)

unfoldable pub ack : Books → ℕ → Option ℕ → Option Rtt → Result (Sender × AckAction) (Sender × Refusal)
ack g n full rtt =
    answer (λ r. Err (g.sender, r)) (ack_verdict g n rtt)
    (acknowledged g.sender (update (rules_of g) (record { 0 = n }) full rtt (state_of g)))
