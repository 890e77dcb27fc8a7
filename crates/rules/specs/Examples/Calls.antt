-- Worked examples of the other calls, computed by hand from document 01.
--   stale, tests               the order of an ACK's tests; 11 keeps the RTT, 10 does not
--   acked                      an ACK across the wrap; loss list and byte count after an ACK; the expected full number
--   full-buffer, overwritten   a full buffer loses its front; a message over the capacity overwrites its own packets
--   pushed                     pacing counts all packets of a message; a refused message writes nothing
--   words, three-runs          12's index; three runs of one range
--   whole, entered             the loss list ascends, each number once; all Added numbers enter it, and no others
--   units-given                the budgets of accepted runs
--   messages, reports          refusals 4 and 13 at their ends; the five reports
use Rattle.std.specs.Prelude.{◌≡◌, refl, false, true, [], ◌∷◌, ◌+◌, ◌-◌, ◌^◌, ℕ, length, replicate, Some, None, Err}
use Rattle.rules_refusals.specs.declared.Refusal.TheVariants.{BadNak, BadNumber, BadRtt, BadTime, Empty, InvalidAck, NoRoom, StaleFullAck}
use Rattle.rules_refusals.specs.Verdict.{accepted}
use Rattle.rules.specs.Calls.{Acked, Found, Nothing, Pushed, Ran, Reported, ack, all_records, all_units, answer, calls, message, nak, payload, runs, stores}
use Rattle.rules.specs.Computing.{computes}
use Rattle.rules.specs.Losses.{Added, Dropped, Ignored, LossKind, LossRun, bad, items, items_of, joined, runs_of, words_of}
use Rattle.rules.specs.Reports.{buffered_bytes, buffered_packets, buffered_time, has_packets_to_send, is_flushed}
use Rattle.rules.specs.Run.{base, first}
use Rattle.rules.specs.Sender.{Sender}
use Rattle.rules.specs.Examples.{small, said, verdicts, sent, begun, bytes, packet_at, holding}

-- two packets are sent and on the list, one is acknowledged; then the RTT of a stale full ACK is kept, that of an ACK
-- past next unsent is not
pub stale :
    (said (small 9 4 9) (message 0 0 (bytes 8) ∷ runs 0 2 false 9 ∷ nak (9 ∷ 10 ∷ []) 6 ∷ ack 10 (Some 3) None ∷ ack 11 (Some 3)
    (Some (record { mean = 1; variance = 2 })) ∷ [])
    ≡ Pushed 2 0 0 None
    ∷ Ran (all_records (small 9 4 9) (message 0 0 (bytes 8) ∷ runs 0 2 false 9 ∷ []) (begun (small 9 4 9))) 0
    ∷ Reported (record { kind = Added; first = 9; count = 2 } ∷ [])
    ∷ Acked 1 1 (Some 3)
    ∷ Nothing
    ∷ [])
    × (base (calls (small 9 4 9)
    (message 0 0 (bytes 8) ∷ runs 0 2 false 9 ∷ ack 9 (Some 0) (Some (record { mean = 1; variance = 2 })) ∷ []) (begun (small 9 4 9)))
    ≡ 20_009)
    × (base (calls (small 9 4 9)
    (message 0 0 (bytes 8) ∷ runs 0 2 false 9 ∷ ack 12 (Some 0) (Some (record { mean = 1; variance = 2 })) ∷ [])
    (begun (small 9 4 9))) ≡ 320_000)
unfolding computes
stale = (refl, refl, refl)

-- 2^31 − 1 and 0 are sent and an ACK of 1 takes both; an ACK of a number on the list leaves that number there, and its
-- 4 + 28 bytes in the count; the first full number expected is 1
pub acked :
    ((answer (small (2 ^ 31 - 1) 4 9) (ack 1 None None)
    (calls (small (2 ^ 31 - 1) 4 9) (message 0 0 (bytes 8) ∷ runs 0 2 false 9 ∷ []) (begun (small (2 ^ 31 - 1) 4 9)))).said
    ≡ Acked 2 0 None)
    × ((calls (small 9 4 9) (message 0 0 (bytes 8) ∷ runs 0 2 false 9 ∷ nak (9 ∷ 10 ∷ []) 6 ∷ ack 10 None None ∷ []) (begun (small 9 4 9))).lost
    ≡ 10 ∷ [])
    × ((calls (small 9 4 9) (message 0 0 (bytes 8) ∷ runs 0 2 false 9 ∷ ack 10 None None ∷ []) (begun (small 9 4 9))).bytes ≡ 32)
    × (verdicts (small 9 4 9) (message 0 0 [] ∷ ack 9 (Some 1) None ∷ ack 9 (Some 2) None ∷ ack 9 (Some 2) None ∷ [])
    ≡ accepted ∷ accepted ∷ accepted ∷ Err (StaleFullAck 2 3) ∷ [])
unfolding computes
acked = (refl, refl, refl, refl)

-- 7 before 8 before 9 before 10 before 11
pub tests :
    (verdicts (small 9 4 9)
    (ack (2 ^ 31) None (Some (record { mean = 100_000_001; variance = 0 })) ∷ ack 9 None
    (Some (record { mean = 0; variance = 100_000_001 })) ∷ ack 9 None None ∷ [])
    ≡ Err BadNumber ∷ Err BadRtt ∷ Err Empty ∷ [])
    × (verdicts (small 9 4 9)
    (message 0 0 [] ∷ ack 10 (Some 0) None ∷ ack 9 (Some 0) None ∷ ack 9 (Some (2 ^ 32 - 1)) None ∷ ack 9 (Some (2 ^ 32 - 1)) None ∷ [])
    ≡ accepted
    ∷ Err (InvalidAck (record { 0 = 10 }) (record { 0 = 9 }) (record { 0 = 9 }))
    ∷ Err (StaleFullAck 0 1)
    ∷ accepted
    ∷ Err (StaleFullAck (2 ^ 32 - 1) (2 ^ 32))
    ∷ [])
unfolding computes
tests = (refl, refl)

-- room for two of three packets: one goes, with 4 + 28 bytes; two more push out both, with 4 + 28 and 1 + 28. Of 29, 32
-- and 31 bytes the first go, and 63 are left.
pub full-buffer :
    (said (small (2 ^ 31 - 1) 2 9)
    (message 0 0 (bytes 9) ∷ message 0 100_000 (bytes 8) ∷ payload 2 ∷ payload (2 ^ 31 - 1) ∷ [])
    ≡ Pushed 3 1 32 None ∷ Pushed 2 2 61 (Some 1) ∷ Found (Some (record { place = 4; len = 4 })) ∷ Nothing ∷ [])
    × ((calls (small 0 2 9) (message 0 0 (bytes 1) ∷ message 0 0 (bytes 4) ∷ message 0 0 (bytes 3) ∷ []) (begun (small 0 2 9))).bytes ≡ 63)
unfolding computes
full-buffer = (refl, refl)

-- nine bytes in two slots of four: the third packet overwrites one byte of the first; then two messages side by side
pub overwritten :
    (stores (small 0 2 9) (message 0 0 (1 ∷ 2 ∷ 3 ∷ 4 ∷ 5 ∷ 6 ∷ 7 ∷ 8 ∷ 9 ∷ []) ∷ []) (begun (small 0 2 9))
    (0 ∷ 0 ∷ 0 ∷ 0 ∷ 0 ∷ 0 ∷ 0 ∷ 0 ∷ 0 ∷ [])
    ≡ 9 ∷ 2 ∷ 3 ∷ 4 ∷ 5 ∷ 6 ∷ 7 ∷ 8 ∷ 0 ∷ [])
    × (stores (small 0 3 9) (message 0 0 (1 ∷ 2 ∷ 3 ∷ 4 ∷ 5 ∷ []) ∷ message 0 0 (6 ∷ 7 ∷ []) ∷ []) (begun (small 0 3 9)) (replicate 12 0)
    ≡ 1 ∷ 2 ∷ 3 ∷ 4 ∷ 5 ∷ 0 ∷ 0 ∷ 0 ∷ 6 ∷ 7 ∷ 0 ∷ 0 ∷ [])
unfolding computes
overwritten = (refl, refl)

-- nine bytes are three packets; a message with time 2^48 is refused
pub pushed :
    ((calls (small 0 4 9) (message 0 0 (bytes 9) ∷ []) (begun (small 0 4 9))).pacing.packets.count ≡ 3)
    × ((calls (small 0 4 9) (message 0 0 (bytes 9) ∷ []) (begun (small 0 4 9))).pacing.bytes.count ≡ 9)
    × (stores (small 0 2 9) (message (2 ^ 48) 0 (1 ∷ 2 ∷ []) ∷ []) (begun (small 0 2 9)) (replicate 8 0) ≡ replicate 8 0)
unfolding computes
pushed = (refl, refl, refl)

-- no last word; a last word with the top bit set; ends 2^30 apart, after a good item; one less; 513 words; 512 words
pub words :
    (words_of ((2 ^ 31) ∷ []) ≡ bad 0)
    × (words_of (7 ∷ (2 ^ 31) ∷ (2 ^ 31) ∷ []) ≡ bad 1)
    × (words_of ((2 ^ 31 + 1) ∷ 2 ∷ (2 ^ 31) ∷ (2 ^ 30) ∷ []) ≡ bad 2)
    × (words_of ((2 ^ 31) ∷ (2 ^ 30 - 1) ∷ []) ≡ items (record { first = 0; last = 2 ^ 30 - 1 } ∷ []))
    × (words_of (replicate 513 (2 ^ 31)) ≡ bad 512)
    × (length (items_of (words_of (replicate 512 5))) ≡ 512)
unfolding computes
words = (refl, refl, refl, refl, refl, refl)

abbrev run : LossKind → ℕ → ℕ → LossRun
run kind first count = record { kind = kind; first = first; count = count }

-- 100 and 101 are sent: a range from the last Ignored number to 100; then items that join, a repeat and a gap that
-- don't, and a Dropped number
pub three-runs :
    (said (small 100 9 9)
    (message 0 0 (bytes 12) ∷ runs 0 2 false 9 ∷ nak ((2 ^ 31 + (102 + 2 ^ 30 - 1)) ∷ 100 ∷ []) 3 ∷ nak
    ((2 ^ 31 + (102 + 2 ^ 30)) ∷ 101 ∷ []) 2 ∷ [])
    ≡ Pushed 3 0 0 None
    ∷ Ran (all_records (small 100 9 9) (message 0 0 (bytes 12) ∷ runs 0 2 false 9 ∷ []) (begun (small 100 9 9))) 0
    ∷ Reported (run Ignored (101 + 2 ^ 30) 1 ∷ run Dropped (102 + 2 ^ 30) (2 ^ 30 - 2) ∷ run Added 100 1 ∷ [])
    ∷ Nothing
    ∷ [])
    × (joined (runs_of (holding (small 100 9 9) (packet_at 0 0 1 9 ∷ packet_at 0 1 1 9 ∷ packet_at 0 2 0 0 ∷ []) 2)
    (items_of (words_of (100 ∷ 101 ∷ 101 ∷ 102 ∷ (2 ^ 31 + 103) ∷ 104 ∷ 106 ∷ 99 ∷ []))))
    ≡ run Added 100 2 ∷ run Added 101 1 ∷ run Ignored 102 3 ∷ run Ignored 106 1 ∷ run Dropped 99 1 ∷ [])
unfolding computes
three-runs = (refl, refl)

pub whole :
    (calls (small 100 9 9) (message 0 0 (bytes 12) ∷ runs 0 9 false 9 ∷ nak (102 ∷ (2 ^ 31 + 99) ∷ 101 ∷ (2 ^ 31 + 101) ∷ 102 ∷ []) 9 ∷ [])
    (begun (small 100 9 9))).lost
    ≡ 100 ∷ 101 ∷ 102 ∷ []
unfolding computes
whole = refl

-- 100 and 101 are sent, 102 isn't: the range enters whole, an Ignored and a Dropped number don't; 12 returns its index
pub entered :
    ((calls (small 100 9 9) (message 0 0 (bytes 12) ∷ runs 0 2 false 9 ∷ nak ((2 ^ 31 + 100) ∷ 101 ∷ 102 ∷ 99 ∷ []) 9 ∷ []) (begun (small 100 9 9))
    ).lost ≡ 100 ∷ 101 ∷ [])
    × (verdicts (small 100 9 9) (nak (7 ∷ (2 ^ 31) ∷ []) 9 ∷ []) ≡ Err (BadNak 1) ∷ [])
    -- an entry counts on past the wrap
    × ((calls (small (2 ^ 31 - 1) 9 9) (message 0 0 (bytes 8) ∷ runs 0 2 false 9 ∷ nak (0 ∷ []) 3 ∷ []) (begun (small (2 ^ 31 - 1) 9 9))).lost
    ≡ (2 ^ 31) ∷ [])
unfolding computes
entered = (refl, refl, refl)

-- two accepted runs, and a refused one between them
pub units-given : all_units (small 0 2 9) (runs 0 2 false 9 ∷ runs (2 ^ 48) 7 false 9 ∷ message 0 0 [] ∷ runs 0 3 false 9 ∷ []) (begun (small 0 2 9)) ≡ 5
unfolding computes
units-given = refl

pub messages : verdicts (small 0 2 9)
    (message (2 ^ 48) 0 [] ∷ message 0 (2 ^ 48) [] ∷ message (2 ^ 48 - 1) (2 ^ 48 - 1) [] ∷ runs
    (2 ^ 48) 0 false 3 ∷ runs 0 0 false 2 ∷ runs 0 0 false 3 ∷ runs 0 9 false 3 ∷ runs 0 9 false 4 ∷ [])
    ≡ Err BadTime ∷ Err BadTime ∷ accepted ∷ Err BadTime ∷ Err NoRoom ∷ accepted ∷ Err NoRoom ∷ accepted ∷ []
unfolding computes
messages = refl

-- buffered times of 3,000 and then 1,000 make 0, not a negative one; 3,000 and 5,000 make 2,000, with 9,000 between too
abbrev waiting : ℕ → Sender
waiting time = calls (small 0 9 9) (message 3_000 0 (bytes 1) ∷ message time 0 (bytes 2) ∷ []) (begun (small 0 9 9))

pub reports :
    (buffered_time (waiting 1_000) ≡ 0)
    × (buffered_time (waiting 5_000) ≡ 2_000)
    × (buffered_time (calls (small 0 9 9) (message 5_000 0 [] ∷ []) (waiting 9_000)) ≡ 2_000)
    × (buffered_time (begun (small 0 9 9)) ≡ 0)
    × (buffered_packets (waiting 0) ≡ 2)
    × (buffered_bytes (waiting 0) ≡ 59)
    × (is_flushed (waiting 0) ≡ false)
    × (is_flushed (begun (small 0 9 9)) ≡ true)
    × (has_packets_to_send (waiting 0) ≡ true)
    × (has_packets_to_send (calls (small 0 9 9) (runs 3_000 2 false 9 ∷ []) (waiting 3_000)) ≡ false)
    × (has_packets_to_send (calls (small 0 9 9) (runs 3_000 2 false 9 ∷ nak (1 ∷ []) 3 ∷ []) (waiting 3_000)) ≡ true)
unfolding computes
reports = (refl, refl, refl, refl, refl, refl, refl, refl, refl, refl, refl)
