-- Worked examples of runs, computed by hand from document 01: if a definition is wrong, one of these fails. Others are
-- in Examples/: Calls (all other calls), Refusals (their order), Turns (of a run), Records (byte by byte), Payloads
-- (where they lie; the period) and Feedback (ACKs and loss reports).
--   past_window, past-budget   rule 5's second packet goes past flow window and budget, and costs a unit if one is left
--   not_sixteen                its number must be divisible by 16, not by 8
--   never-stamp                a packet that is fresh after the stamp's rollover is sent, a late one is dropped
--   same-message               rule 1 also drops packets of the late one's message, and stops at the next message
--   ties                       rule 3 takes the earliest; of two equal ones, the nearer to the front
--   caps                       the addition is held at 2^30 − 1, the transmit count at 65,535
--   flush, window_first        rule 6 holds the payload until the next message; with flow window 0 rule 4 comes first
--   by-loss                    rule 2 takes the number nearest the front off the list
--   fields                     each field of the records; the stamp is the time's low 32 bits; the header's number has
--                              31 bits
--   small, said, verdicts, shown, shows, sent, begun, bytes, packet_at, holding   shorthands for all examples
pub mod Calls
pub mod Feedback
pub mod Payloads
pub mod Records
pub mod Refusals
pub mod Turns
use Rattle.std.specs.Prelude.{◌≡◌, refl, false, true, List, [], ◌∷◌, map, ◌*◌, ◌+◌, ◌-◌, ◌^◌, ℕ, length, replicate, Err}
use Rattle.rules_refusals.specs.declared.Refusal.TheVariants.{BadNumber, BadTime, NotHeld}
use Rattle.rules_packets.specs.declared.Place.TheVariants.{Only}
use Rattle.rules_pacing.specs.declared.LiveBandwidthMode.TheVariants.{Unlimited}
use Rattle.rules.specs.Calls.{Answer, Call, Ran, Said, all_records, answer, answers, calls, message, nak, payload, records, runs}
use Rattle.rules.specs.Computing.{computes}
use Rattle.rules.specs.Records.{Action, code, header_of}
use Rattle.rules.specs.Run.{first}
use Rattle.rules.specs.Sender.{Packet, Sender, fresh, put}
use Rattle.rules.specs.Settings.{Settings}
use Rattle.rules_refusals.specs.Verdict.{Verdict, accepted}

abbrev pub small : ℕ → ℕ → ℕ → Settings
small first buffer flow = record { first = first; size = 4; buffer = buffer; flow = flow; latency = 0; overhead = 28; socket = 7 }

abbrev pub said : Settings → List Call → List Said
said c ks = map (λ (a : Answer). a.said) (answers c ks (fresh c Unlimited))

abbrev pub verdicts : Settings → List Call → List Verdict
verdicts c ks = map (λ (a : Answer). a.verdict) (answers c ks (fresh c Unlimited))

-- kind, flags, length, number, word, stamp, time
abbrev pub shown : Action → List ℕ
shown a = code a.kind ∷ a.flags ∷ a.len ∷ a.number ∷ a.word ∷ a.stamp ∷ a.time ∷ []

abbrev pub shows : Settings → List Call → Sender → List (List ℕ)
shows c ks s = map shown (all_records c ks s)

-- kind and number
abbrev pub sent : Settings → List Call → Sender → List (List ℕ)
sent c ks s = map (λ (a : Action). code a.kind ∷ a.number ∷ []) (all_records c ks s)

abbrev pub begun : Settings → Sender
begun c = fresh c Unlimited

abbrev pub bytes : ℕ → List ℕ
bytes n = replicate n 0

-- flow window 0: 15 is sent, and 16 with it
pub past_window : sent (small 15 4 0) (message 0 0 (bytes 12) ∷ runs 0 5 false 9 ∷ []) (begun (small 15 4 0))
    ≡ (1 ∷ 15 ∷ []) ∷ (1 ∷ 16 ∷ []) ∷ (6 ∷ 0 ∷ []) ∷ []
unfolding computes
past_window = refl

-- budget 1: both go and none is left; budget 2: both go and use it up; budget 3: one unit is left for 17
pub past-budget : ((answer (small 15 4 9) (runs 0 1 false 9)
    (calls (small 15 4 9) (message 0 0 (bytes 12) ∷ []) (begun (small 15 4 9)))).said
    ≡ Ran (records (answer (small 15 4 9) (runs 0 2 false 9)
    (calls (small 15 4 9) (message 0 0 (bytes 12) ∷ []) (begun (small 15 4 9))))) 0)
    × (sent (small 15 4 9) (message 0 0 (bytes 12) ∷ runs 0 3 false 9 ∷ []) (begun (small 15 4 9))
    ≡ (1 ∷ 15 ∷ []) ∷ (1 ∷ 16 ∷ []) ∷ (1 ∷ 17 ∷ []) ∷ [])
unfolding computes
past-budget = (refl, refl)

pub not_sixteen : sent (small 7 4 9) (message 0 0 (bytes 12) ∷ runs 0 1 false 9 ∷ []) (begun (small 7 4 9)) ≡ (1 ∷ 7 ∷ []) ∷ []
unfolding computes
not_sixteen = refl

-- The stamp rolls over at 2^32: a packet of 2^32 − 5 is fresh at 2^32 + 5; one of 5 is late at 1,000,006 and not before
pub never-stamp :
    (sent (small 0 4 9) (message (2 ^ 32 - 5) 0 (bytes 1) ∷ runs (2 ^ 32 + 5) 1 false 9 ∷ []) (begun (small 0 4 9)) ≡ (1 ∷ 0 ∷ []) ∷ [])
    × (sent (small 0 4 9) (message (2 ^ 32 + 5) 0 (bytes 1) ∷ runs (2 ^ 32 + 1_000_005) 1 false 9 ∷ []) (begun (small 0 4 9))
    ≡ (1 ∷ 0 ∷ []) ∷ [])
    × (sent (small 0 4 9) (message 5 0 (bytes 1) ∷ runs 1_000_005 1 false 9 ∷ []) (begun (small 0 4 9)) ≡ (1 ∷ 0 ∷ []) ∷ [])
    × (shows (small 0 4 9) (message 5 0 (bytes 1) ∷ runs 1_000_006 1 false 9 ∷ []) (begun (small 0 4 9))
    ≡ (4 ∷ 0 ∷ 0 ∷ 0 ∷ 1 ∷ 0 ∷ 0 ∷ []) ∷ (5 ∷ 0 ∷ 0 ∷ 0 ∷ 0 ∷ 0 ∷ 0 ∷ []) ∷ [])
    -- one of 2^32 − 5 is late at 2^32 + 1,000,000, though its stamp is far above that of now
    × (sent (small 0 4 9) (message (2 ^ 32 - 5) 0 (bytes 1) ∷ runs (2 ^ 32 + 1_000_000) 1 false 9 ∷ []) (begun (small 0 4 9))
    ≡ (4 ∷ 0 ∷ []) ∷ (5 ∷ 0 ∷ []) ∷ [])
    -- a late drop doesn't change the byte count
    × ((calls (small 0 4 9) (message 5 0 (bytes 1) ∷ runs 1_000_006 1 false 9 ∷ []) (begun (small 0 4 9))).bytes ≡ 29)
unfolding computes
never-stamp = (refl, refl, refl, refl, refl, refl)

abbrev pub packet_at : ℕ → ℕ → ℕ → ℕ → Packet
packet_at time of n resend = record { time = time; message = of; place = Only; len = 1; count = n; resend = resend }

-- a sender with these packets, the first n of them sent
abbrev pub holding : Settings → List Packet → ℕ → Sender
holding c ps n = put (fresh c Unlimited) ps c.first (c.first + n) [] (length ps * 29)

-- a late packet, one of its message that isn't late, one of another message that isn't late, and a late one behind it
abbrev mixed : Sender
mixed = holding (small 0 9 9) (packet_at 0 3 0 0 ∷ packet_at 9 3 0 0 ∷ packet_at 9 4 0 0 ∷ packet_at 0 4 0 0 ∷ []) 0

pub same-message :
    (sent (small 0 9 9) (runs 1_000_001 1 false 9 ∷ []) mixed ≡ (4 ∷ 0 ∷ []) ∷ (1 ∷ 2 ∷ []) ∷ [])
    × (length (calls (small 0 9 9) (runs 1_000_001 1 false 9 ∷ []) mixed).packets ≡ 2)
unfolding computes
same-message = (refl, refl)

pub ties : sent (small 0 9 9) (runs 100 3 false 9 ∷ [])
    (holding (small 0 9 9) (packet_at 0 0 1 99 ∷ packet_at 0 1 1 50 ∷ packet_at 0 2 1 50 ∷ packet_at 0 3 1 100 ∷ []) 4)
    ≡ (2 ∷ 1 ∷ []) ∷ (2 ∷ 2 ∷ []) ∷ (2 ∷ 0 ∷ []) ∷ []
unfolding computes
ties = refl

pub caps : map (λ (p : Packet). p.count ∷ p.resend ∷ [])
    (calls (small 0 9 9) (runs 100 2 false 9 ∷ []) (holding (small 0 9 9) (packet_at 0 0 65_535 9 ∷ packet_at 0 1 3_355 9 ∷ []) 2)).packets
    ≡ (65_535 ∷ 1_073_741_923 ∷ []) ∷ (3_356 ∷ 1_073_610_100 ∷ []) ∷ []
unfolding computes
caps = refl

-- sent, flushed and still held; after the next message no longer
pub flush :
    (shows (small 5 2 9) (message 8 0 (bytes 3) ∷ runs 8 2 true 9 ∷ []) (begun (small 5 2 9))
    ≡ (1 ∷ 192 ∷ 3 ∷ 5 ∷ 0 ∷ 8 ∷ 8 ∷ []) ∷ (1 ∷ 193 ∷ 3 ∷ 5 ∷ 0 ∷ 8 ∷ 8 ∷ []) ∷ [])
    × (verdicts (small 5 2 9)
    (message 8 0 (bytes 3) ∷ runs 8 2 true 9 ∷ payload 5 ∷ message
    (2 ^ 48) 0 [] ∷ payload 5 ∷ payload 6 ∷ message 0 0 [] ∷ payload 5 ∷ payload (2 ^ 31) ∷ [])
    ≡ accepted ∷ accepted ∷ accepted ∷ Err BadTime ∷ accepted ∷ Err NotHeld ∷ accepted ∷ Err NotHeld ∷ Err BadNumber ∷ [])
    × ((calls (small 5 2 9) (message 8 0 (bytes 3) ∷ runs 8 2 true 9 ∷ []) (begun (small 5 2 9))).bytes ≡ 0)
unfolding computes
flush = (refl, refl, refl)

pub window_first : sent (small 5 2 0) (message 8 0 (bytes 3) ∷ runs 8 9 true 9 ∷ []) (begun (small 5 2 0))
    ≡ (1 ∷ 5 ∷ []) ∷ (6 ∷ 0 ∷ []) ∷ []
unfolding computes
window_first = refl

-- both are on the list: the nearer first, each once and flagged; then nothing is left to send
pub by-loss :
    (shows (small 9 4 9) (message 7 0 (bytes 8) ∷ runs 7 2 false 9 ∷ nak (10 ∷ 9 ∷ []) 6 ∷ runs 8 3 false 9 ∷ []) (begun (small 9 4 9))
    ≡ (1 ∷ 128 ∷ 4 ∷ 9 ∷ 0 ∷ 7 ∷ 7 ∷ [])
    ∷ (1 ∷ 64 ∷ 4 ∷ 10 ∷ 0 ∷ 7 ∷ 7 ∷ [])
    ∷ (3 ∷ 129 ∷ 4 ∷ 9 ∷ 0 ∷ 7 ∷ 7 ∷ [])
    ∷ (3 ∷ 65 ∷ 4 ∷ 10 ∷ 0 ∷ 7 ∷ 7 ∷ [])
    ∷ (5 ∷ 0 ∷ 0 ∷ 0 ∷ 0 ∷ 0 ∷ 0 ∷ [])
    ∷ [])
unfolding computes
by-loss = refl

-- a packet sent after the stamp's rollover, then the wait for its ACK; a number past 2^31
pub fields :
    (shows (small 0 4 0) (message (2 ^ 32 + 5) 0 (bytes 1) ∷ runs (2 ^ 32 + 5) 2 false 9 ∷ []) (begun (small 0 4 0))
    ≡ (1 ∷ 192 ∷ 1 ∷ 0 ∷ 0 ∷ 5 ∷ (2 ^ 32 + 5) ∷ []) ∷ (6 ∷ 0 ∷ 0 ∷ 0 ∷ 1 ∷ 10_000 ∷ 0 ∷ []) ∷ [])
    × (header_of (small 0 4 0) (2 ^ 31 + 5) (packet_at 0 0 0 0) ≡ header_of (small 0 4 0) 5 (packet_at 0 0 0 0))
unfolding computes
fields = (refl, refl)
