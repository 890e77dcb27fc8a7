-- Document 01, "Refusal numbers": the refusals of each call, in the order in which they are tested. "The lowest that
-- applies is given, with only what the table names."
--   new_verdict c mode            a request for a new sender: 1
--   message_verdict c t now n s   a message of n bytes: 3, 4, 5, 6
--   ack_verdict c n full rtt s    an ACK: 3, 7, 8, 9, 10, 11
--   nak_verdict c words room s    a loss report: 3, 12, 13
--   run_verdict c now p room s    a run: 3, 4, 13
--   payload_verdict c n s         a request for a payload: 3, 7, 14
--   count_is_full, bad_rtt, full_verdict, words_verdict, lies_verdict   the tests for 6, 8, 11, 12 and 13, 14
-- 2, BadStore, concerns lent areas, which these definitions do not have: where a lent area is too short the call
-- answers 2 before 3. The crate rules_refusals defines the refusals with their numbers and values.
use Rattle.std.specs.Prelude.{Bool, false, not, ◌&&◌, ◌||◌, List, ℕ, ◌+◌, ◌*◌, ◌^◌, min, ltb, leb, eqb, length, Option, Some, None, Err}
use Rattle.rules_numbers.specs.Limits.{time_limit, length_most, bytes_limit}
use Rattle.rules_refusals.specs.declared.Refusal.TheVariants.{BadSetting, BadState, BadTime, TooLong, CountFull, BadNumber, BadRtt, Empty, InvalidAck, StaleFullAck, BadNak, NoRoom, NotHeld}
use Rattle.rules_refusals.specs.Verdict.{Verdict, accepted, when}
use Rattle.rules_packets.specs.Split.{count}
use Rattle.rules_numbers.specs.declared.Rtt.{Rtt}
use Rattle.rules_numbers.specs.Rtt as Rtt
use Rattle.rules_pacing.specs.declared.LiveBandwidthMode.{LiveBandwidthMode}
use Rattle.rules_pacing.specs.Period.{mode_in_range}
use Rattle.rules_pacing.specs.Pacing as Pacing
use Rattle.rules.specs.Numbers.{wire}
use Rattle.rules.specs.Settings.{Settings, in_range}
use Rattle.rules.specs.Sender.{Sender, sent_of}
use Rattle.rules.specs.BookRules.{kept}
use Rattle.rules.specs.Ack.{ack_of}
use Rattle.rules.specs.Losses.{Words, items, bad, words_of}
use Rattle.rules.specs.Reports.{Lies, payload_of}

unfoldable pub new_verdict : Settings → LiveBandwidthMode → Verdict
new_verdict c mode = when (not (in_range c && mode_in_range mode)) BadSetting accepted

-- "byte count with the message's wire sizes is 2^62 or more; or packets or payload bytes since the last estimate ..
-- pass 2^38"
unfoldable pub count_is_full : Settings → ℕ → ℕ → Sender → Bool
count_is_full c now n s =
    leb bytes_limit (s.bytes + n + count c.size n * c.overhead) || Pacing.count_full s.pacing now (count c.size n) n

unfoldable pub message_verdict : Settings → ℕ → ℕ → ℕ → Sender → Verdict
message_verdict c time now n s =
    when (not (kept c s)) BadState
    (when (leb time_limit time || leb time_limit now) BadTime
    (when (ltb length_most n) TooLong
    (when (count_is_full c now n s) CountFull accepted)))

unfoldable pub bad_rtt : Option Rtt → Bool
bad_rtt None = false
bad_rtt (Some rtt) = not (Rtt.in_range rtt)

-- "full number below the expected; returns both"
unfoldable pub full_verdict : Option ℕ → ℕ → Verdict
full_verdict None e = accepted
full_verdict (Some n) e = when (ltb n e) (StaleFullAck n e) accepted

-- "ACK outside first..next unsent; returns all three"
unfoldable pub ack_verdict : Settings → ℕ → Option ℕ → Option Rtt → Sender → Verdict
ack_verdict c n full rtt s =
    when (not (kept c s)) BadState
    (when (leb (2 ^ 31) n) BadNumber
    (when (bad_rtt rtt) BadRtt
    (when (eqb (length s.packets) 0) Empty
    (when (ltb (sent_of s) (ack_of s n)) (InvalidAck (record { 0 = n }) (record { 0 = wire s.front }) (record { 0 = wire s.next }))
    (full_verdict full s.expected)))))

-- "Room needed: three per item."
unfoldable pub words_verdict : Words → ℕ → Verdict
words_verdict (bad index) room = Err (BadNak index)
words_verdict (items is) room = when (ltb room (3 * length is)) NoRoom accepted

unfoldable pub nak_verdict : Settings → List ℕ → ℕ → Sender → Verdict
nak_verdict c words room s = when (not (kept c s)) BadState (words_verdict (words_of words) room)

-- "Room needed: min(p, buffered) + 3 records."
unfoldable pub run_verdict : Settings → ℕ → ℕ → ℕ → Sender → Verdict
run_verdict c now p room s =
    when (not (kept c s)) BadState
    (when (leb time_limit now) BadTime
    (when (ltb room (min p (length s.packets) + 3)) NoRoom accepted))

unfoldable pub lies_verdict : Option Lies → Verdict
lies_verdict None = Err NotHeld
lies_verdict (Some l) = accepted

unfoldable pub payload_verdict : Settings → ℕ → Sender → Verdict
payload_verdict c n s = when (not (kept c s)) BadState (when (leb (2 ^ 31) n) BadNumber (lies_verdict (payload_of c s n)))
