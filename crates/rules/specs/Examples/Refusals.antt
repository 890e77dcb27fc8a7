-- Worked examples of refusals, from document 01: "The lowest that applies is given, with only what the table names."
-- Each list begins with all refusals of its call applying; then the lowest is removed, one after the other.
--   of-message             3, 4, 5, 6
--   of-ack                 3, 7, 8, 9, 10, 11
--   of-nak                 3, 12, 13
--   of-run                 3, 4, 13
--   of-payload             3, 7, 14
--   by-packets, by_bytes   6: 2^38 since the last estimate may be reached and not passed; "one due now taken as made"
--   outside                10 "returns all three": the ACK, first and next unsent, as 31-bit numbers
use Rattle.std.specs.Prelude.{◌≡◌, refl, [], ◌∷◌, ◌+◌, ◌-◌, ◌^◌, ℕ, Option, Some, None, Err}
use Rattle.rules_refusals.specs.declared.Refusal.TheVariants.{BadNak, BadNumber, BadRtt, BadState, BadTime, CountFull, Empty, InvalidAck, NoRoom, NotHeld, StaleFullAck, TooLong}
use Rattle.rules_numbers.specs.declared.Rtt.{Rtt}
use Rattle.rules_pacing.specs.declared.LiveBandwidthMode.TheVariants.{Unlimited}
use Rattle.rules_pacing.specs.Kept as Pacing
use Rattle.rules.specs.Computing.{computes}
use Rattle.rules.specs.Refusals.{ack_verdict, message_verdict, nak_verdict, payload_verdict, run_verdict}
use Rattle.rules.specs.Sender.{Sender, put}
use Rattle.rules.specs.Settings.{Settings}
use Rattle.rules.specs.Examples.{small, begun, packet_at, holding}
use Rattle.rules_refusals.specs.Verdict.{Verdict, accepted}

-- first number 5, size 4, overhead 28
abbrev five : Settings
five = small 5 9 9

-- damaged books: nothing is buffered, yet next unsent is 6. The byte count is the largest that keeps the book rules
abbrev damaged : Sender
damaged = put (begun five) [] 5 6 [] (2 ^ 62 - 1)

-- nothing buffered, with that byte count
abbrev full : Sender
full = put (begun five) [] 5 5 [] (2 ^ 62 - 1)

-- 5 and 6 are sent, 7 is next unsent and buffered
abbrev two : Sender
two = holding five (packet_at 0 0 1 9 ∷ packet_at 0 1 1 9 ∷ packet_at 0 2 0 0 ∷ []) 2

-- time or now 2^48; one byte too many; the byte count
pub of-message :
    (message_verdict five (2 ^ 48) (2 ^ 48) 1_048_577 damaged ≡ Err BadState)
    × (message_verdict five (2 ^ 48) 0 1_048_577 full ≡ Err BadTime)
    × (message_verdict five 0 (2 ^ 48) 1_048_577 full ≡ Err BadTime)
    × (message_verdict five 0 0 1_048_577 full ≡ Err TooLong)
    × (message_verdict five 0 0 1_048_576 full ≡ Err CountFull)
    × (message_verdict five 0 0 1_048_576 two ≡ accepted)
unfolding computes
of-message = (refl, refl, refl, refl, refl, refl)

abbrev bad_rtt : Option Rtt
bad_rtt = Some (record { mean = 100_000_001; variance = 0 })

-- number 2^31 + 9, or 9, which is past next unsent; a mean over its range; nothing buffered; full number 0
pub of-ack :
    (ack_verdict five (2 ^ 31 + 9) (Some 0) bad_rtt damaged ≡ Err BadState)
    × (ack_verdict five (2 ^ 31 + 9) (Some 0) bad_rtt full ≡ Err BadNumber)
    × (ack_verdict five 9 (Some 0) bad_rtt full ≡ Err BadRtt)
    × (ack_verdict five 9 (Some 0) None full ≡ Err Empty)
    × (ack_verdict five 9 (Some 0) None two ≡ Err (InvalidAck (record { 0 = 9 }) (record { 0 = 5 }) (record { 0 = 7 })))
    × (ack_verdict five 7 (Some 0) None two ≡ Err (StaleFullAck 0 1))
    × (ack_verdict five 7 (Some 1) None two ≡ accepted)
unfolding computes
of-ack = (refl, refl, refl, refl, refl, refl, refl)

-- word 1 opens a range that has no last word; one item needs room for three runs
pub of-nak :
    (nak_verdict five (7 ∷ (2 ^ 31) ∷ []) 0 damaged ≡ Err BadState)
    × (nak_verdict five (7 ∷ (2 ^ 31) ∷ []) 0 two ≡ Err (BadNak 1))
    × (nak_verdict five (7 ∷ []) 2 two ≡ Err NoRoom)
    × (nak_verdict five (7 ∷ []) 3 two ≡ accepted)
unfolding computes
of-nak = (refl, refl, refl, refl)

-- now 2^48; room for min(2, 3) + 3 = 5 records, or min(9, 3) + 3 = 6
pub of-run :
    (run_verdict five (2 ^ 48) 2 0 damaged ≡ Err BadState)
    × (run_verdict five 0 2 0 damaged ≡ Err BadState)
    × (run_verdict five (2 ^ 48) 2 4 two ≡ Err BadTime)
    × (run_verdict five (2 ^ 48 - 1) 2 4 two ≡ Err NoRoom)
    × (run_verdict five (2 ^ 48 - 1) 2 5 two ≡ accepted)
    × (run_verdict five (2 ^ 48 - 1) 9 5 two ≡ Err NoRoom)
    × (run_verdict five (2 ^ 48 - 1) 9 6 two ≡ accepted)
unfolding computes
of-run = (refl, refl, refl, refl, refl, refl, refl)

-- 8 isn't held, 7 is; 2^31 + 7 is no sequence number, though its low 31 bits are 7
pub of-payload :
    (payload_verdict five (2 ^ 31 + 8) damaged ≡ Err BadState)
    × (payload_verdict five 8 damaged ≡ Err BadState)
    × (payload_verdict five (2 ^ 31 + 8) two ≡ Err BadNumber)
    × (payload_verdict five (2 ^ 31 + 7) two ≡ Err BadNumber)
    × (payload_verdict five 8 two ≡ Err NotHeld)
    × (payload_verdict five 7 two ≡ accepted)
unfolding computes
of-payload = (refl, refl, refl, refl, refl, refl)

-- ## CountFull by pacing

-- nothing buffered; the next estimate is due at 10, and since the last one came so many packets and payload bytes
abbrev paced : ℕ → ℕ → Sender
paced packets bytes = record {
  packets = [];
  front = 5;
  next = 5;
  lost = [];
  bytes = 0;
  rtt = (begun five).rtt;
  messages = 0;
  expected = 1;
  held = None;
  pacing = Pacing.control (Some 10) (record { count = packets; mean = 0; variance = 0 }) (record { count = bytes; mean = 0; variance = 0 }) Unlimited;
  pushed = 0;
}

-- four bytes are one packet, five are two; at 10 the estimate is due and the count begins again
pub by-packets :
    (message_verdict five 0 9 4 (paced (2 ^ 38 - 1) 0) ≡ accepted)
    × (message_verdict five 0 9 5 (paced (2 ^ 38 - 1) 0) ≡ Err CountFull)
    × (message_verdict five 0 9 4 (paced (2 ^ 38) 0) ≡ Err CountFull)
    × (message_verdict five 10 9 4 (paced (2 ^ 38) 0) ≡ Err CountFull)
    × (message_verdict five 0 10 4 (paced (2 ^ 38) 0) ≡ accepted)
unfolding computes
by-packets = (refl, refl, refl, refl, refl)

-- a message without payload adds no bytes
pub by_bytes :
    (message_verdict five 0 9 4 (paced 0 (2 ^ 38 - 4)) ≡ accepted)
    × (message_verdict five 0 9 5 (paced 0 (2 ^ 38 - 4)) ≡ Err CountFull)
    × (message_verdict five 0 9 0 (paced 0 (2 ^ 38)) ≡ accepted)
    × (message_verdict five 0 9 1 (paced 0 (2 ^ 38)) ≡ Err CountFull)
    × (message_verdict five 0 10 1 (paced 0 (2 ^ 38)) ≡ accepted)
unfolding computes
by_bytes = (refl, refl, refl, refl, refl)

-- ## InvalidAck

-- front 2^31 + 5 in these definitions, which is 5 on the wire: two of three packets are sent
abbrev past : Sender
past = put two two.packets (2 ^ 31 + 5) (2 ^ 31 + 7) [] 87

abbrev invalid : ℕ → ℕ → ℕ → Verdict
invalid n first next = Err (InvalidAck (record { 0 = n }) (record { 0 = first }) (record { 0 = next }))

-- one before the first, and one past next unsent
pub outside :
    (ack_verdict five 4 None None two ≡ invalid 4 5 7)
    × (ack_verdict five 5 None None two ≡ accepted)
    × (ack_verdict five 8 None None two ≡ invalid 8 5 7)
    × (ack_verdict five 9 None None past ≡ invalid 9 5 7)
    × (ack_verdict five 7 None None past ≡ accepted)
unfolding computes
outside = (refl, refl, refl, refl, refl)
