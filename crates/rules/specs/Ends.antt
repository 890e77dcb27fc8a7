-- Each range of document 01 at its end and one past it, computed from the definitions: if a definition admits too much
-- or too little, one of these fails.
--   settings, modes   "Numbers and their ends": the settings of a new sender; "Rates to 2^40, overhead to 10,000."
--   capacities        "Capacity is the buffer size, or 1 where that is 0."
--   full              5 and 6: the longest message, the byte count
--   whole, edges      "Book rules": books that keep them all, with each value at its end
--   damaged           books that each break one rule
--   lowest            settings out of range; 3 comes before whatever else is bad
--   wraps             the message counter
use Rattle.std.specs.Prelude.{◌≡◌, refl, Bool, false, true, List, [], ◌∷◌, map, ◌+◌, ◌-◌, ◌^◌, ℕ, length, replicate, Option, Some, None, Err}
use Rattle.rules_refusals.specs.declared.Refusal.TheVariants.{BadSetting, BadState, CountFull, TooLong}
use Rattle.rules_packets.specs.declared.Place.TheVariants.{Only}
use Rattle.rules_numbers.specs.declared.Rtt.{Rtt}
use Rattle.rules_pacing.specs.declared.LiveBandwidthMode.{LiveBandwidthMode}
use Rattle.rules_pacing.specs.declared.LiveBandwidthMode.TheVariants.{Estimated, Input, Max, Unlimited}
use Rattle.rules_pacing.specs.declared.SenderCongestionControl.{SenderCongestionControl}
use Rattle.rules_pacing.specs.Kept as Pacing
use Rattle.rules.specs.BookRules.{kept}
use Rattle.rules.specs.Calls.{calls, message}
use Rattle.rules.specs.Computing.{computes}
use Rattle.rules.specs.Refusals.{message_verdict, nak_verdict, new_verdict}
use Rattle.rules.specs.Sender.{Held, Packet, Sender, fresh, put}
use Rattle.rules.specs.Settings.{Settings, capacity, store_size}
use Rattle.rules_refusals.specs.Verdict.{Verdict, accepted}

abbrev setting : ℕ → ℕ → ℕ → ℕ → ℕ → ℕ → ℕ → Settings
setting first size buffer flow latency overhead socket =
    record { first = first; size = size; buffer = buffer; flow = flow; latency = latency; overhead = overhead; socket = socket }

abbrev asked : List Settings → List Verdict
asked cs = map (λ (c : Settings). new_verdict c Unlimited) cs

-- each at its least and at its most; then each past its end
pub settings :
    (asked (setting 0 1 0 0 0 0 0 ∷ setting (2 ^ 31 - 1) 1_456 8_192 65_535 65_535_000 128 (2 ^ 32 - 1) ∷ []) ≡ replicate 2 accepted)
    × (asked
    (setting (2 ^ 31) 1 0 0 0 0 0
    ∷ setting 0 0 0 0 0 0 0
    ∷ setting 0 1_457 0 0 0 0 0
    ∷ setting 0 1 8_193 0 0 0 0
    ∷ setting 0 1 0 65_536 0 0 0
    ∷ setting 0 1 0 0 65_535_001 0 0
    ∷ setting 0 1 0 0 0 129 0
    ∷ [])
    ≡ replicate 7 (Err BadSetting))
unfolding computes
settings = (refl, refl)

abbrev small : Settings
small = setting 5 4 2 9 0 28 7

abbrev paced : List LiveBandwidthMode → List Verdict
paced ms = map (new_verdict small) ms

pub modes :
    (paced (Input (2 ^ 40) 10_000 ∷ Estimated (2 ^ 40) 10_000 ∷ Max (2 ^ 40) ∷ Unlimited ∷ []) ≡ replicate 4 accepted)
    × (paced (Input (2 ^ 40 + 1) 0 ∷ Input 0 10_001 ∷ Estimated (2 ^ 40 + 1) 0 ∷ Estimated 0 10_001 ∷ Max (2 ^ 40 + 1) ∷ [])
    ≡ replicate 5 (Err BadSetting))
unfolding computes
modes = (refl, refl)

pub capacities :
    (map capacity (setting 0 3 0 0 0 0 0 ∷ setting 0 3 1 0 0 0 0 ∷ setting 0 3 8_192 0 0 0 0 ∷ []) ≡ 1 ∷ 1 ∷ 8_192 ∷ [])
    × (map store_size (setting 0 3 0 0 0 0 0 ∷ setting 0 3 1 0 0 0 0 ∷ setting 0 3 8_192 0 0 0 0 ∷ []) ≡ 3 ∷ 3 ∷ 24_576 ∷ [])
capacities = (refl, refl)

-- nothing buffered, with this byte count
abbrev counted : ℕ → Sender
counted n = put (fresh small Unlimited) [] 5 5 [] n

-- four bytes are 32 on the wire, five are 61
pub full :
    (map (λ (n : ℕ). message_verdict small 0 0 n (counted 0)) (1_048_576 ∷ 1_048_577 ∷ []) ≡ accepted ∷ Err TooLong ∷ [])
    × (map (λ (n : ℕ). message_verdict small 0 0 4 (counted n)) ((2 ^ 62 - 33) ∷ (2 ^ 62 - 32) ∷ []) ≡ accepted ∷ Err CountFull ∷ [])
    × (map (λ (n : ℕ). message_verdict small 0 0 5 (counted n)) ((2 ^ 62 - 62) ∷ (2 ^ 62 - 61) ∷ []) ≡ accepted ∷ Err CountFull ∷ [])
unfolding computes
full = (refl, refl, refl)

-- ## Book rules

abbrev packet_of : ℕ → ℕ → ℕ → ℕ → ℕ → Packet
packet_of time of len count resend = record { time = time; message = of; place = Only; len = len; count = count; resend = resend }

-- a sent and an unsent packet
abbrev sent : Packet
sent = packet_of 0 0 4 1 9

abbrev unsent : Packet
unsent = packet_of 0 1 4 0 0

-- front 5, with these packets, next unsent, loss list and byte count
abbrev books : List Packet → ℕ → List ℕ → ℕ → Sender
books ps next lost bytes = put (fresh small Unlimited) ps 5 next lost bytes

-- nothing buffered; the other fields of a sender
abbrev rest : ℕ → Rtt → ℕ → Option Held → SenderCongestionControl → Sender
rest expected rtt messages held pacing = record {
  packets = [];
  front = 5;
  next = 5;
  lost = [];
  bytes = 0;
  rtt = rtt;
  messages = messages;
  expected = expected;
  held = held;
  pacing = pacing;
  pushed = 0;
}

abbrev rtt_of : ℕ → ℕ → Rtt
rtt_of mean variance = record { mean = mean; variance = variance }

abbrev held : ℕ → ℕ → Option Held
held slot len = Some (record { number = 4; slot = slot; len = len })

abbrev calm : SenderCongestionControl
calm = Pacing.fresh Unlimited

abbrev next : ℕ → SenderCongestionControl
next n = Pacing.control (Some n) Pacing.none Pacing.none Unlimited

abbrev judged : List Sender → List Bool
judged ss = map (kept small) ss

pub whole : judged (books (sent ∷ unsent ∷ []) 6 (5 ∷ []) 64 ∷ books (sent ∷ sent ∷ []) 7 (5 ∷ 6 ∷ []) 64 ∷ rest 1 (rtt_of 0 0) 0 None calm ∷ [])
    ≡ replicate 3 true
unfolding computes
whole = refl

pub edges : judged
    (books (packet_of (2 ^ 48 - 1) (2 ^ 26 - 1) 4 65_535 (2 ^ 49 - 1) ∷ []) 6 [] (2 ^ 62 - 1)
    ∷ rest (2 ^ 32) (rtt_of 100_000_000 100_000_000) (2 ^ 26 - 1) (held 1 4) (next (2 ^ 49 - 1))
    ∷ [])
    ≡ replicate 2 true
unfolding computes
edges = refl

-- over the capacity; next unsent before the front, or more than one past the back; a loss list that has a number below
-- the front, an unsent one, the wrong order, a repeat; a sent packet's time, message, length, transmit count and resend
-- time; an unsent one's; the byte count; and the other fields
pub damaged : judged
    (books (sent ∷ sent ∷ sent ∷ []) 8 [] 96
    ∷ books (unsent ∷ []) 4 [] 64
    ∷ books (sent ∷ []) 7 [] 64
    ∷ books (sent ∷ []) 6 (4 ∷ []) 64
    ∷ books (sent ∷ unsent ∷ []) 6 (6 ∷ []) 64
    ∷ books (sent ∷ sent ∷ []) 7 (6 ∷ 5 ∷ []) 64
    ∷ books (sent ∷ sent ∷ []) 7 (5 ∷ 5 ∷ []) 64
    ∷ books (packet_of (2 ^ 48) 0 4 1 9 ∷ []) 6 [] 64
    ∷ books (packet_of 0 (2 ^ 26) 4 1 9 ∷ []) 6 [] 64
    ∷ books (packet_of 0 0 5 1 9 ∷ []) 6 [] 64
    ∷ books (packet_of 0 0 4 0 9 ∷ []) 6 [] 64
    ∷ books (packet_of 0 0 4 65_536 9 ∷ []) 6 [] 64
    ∷ books (packet_of 0 0 4 1 (2 ^ 49) ∷ []) 6 [] 64
    ∷ books (sent ∷ packet_of 0 0 4 0 9 ∷ []) 7 [] 64
    ∷ books (packet_of (2 ^ 48) 0 4 0 0 ∷ []) 5 [] 64
    ∷ books (packet_of 0 (2 ^ 26) 4 0 0 ∷ []) 5 [] 64
    ∷ books (packet_of 0 0 5 0 0 ∷ []) 5 [] 64
    ∷ books (packet_of 0 0 4 1 0 ∷ []) 5 [] 64
    ∷ books (packet_of 0 0 4 0 9 ∷ []) 5 [] 64
    ∷ books (sent ∷ unsent ∷ []) 6 [] (2 ^ 62)
    ∷ books (sent ∷ unsent ∷ []) 6 [] 63
    ∷ rest 0 (rtt_of 0 0) 0 None calm
    ∷ rest (2 ^ 32 + 1) (rtt_of 0 0) 0 None calm
    ∷ rest 1 (rtt_of 100_000_001 0) 0 None calm
    ∷ rest 1 (rtt_of 0 100_000_001) 0 None calm
    ∷ rest 1 (rtt_of 0 0) (2 ^ 26) None calm
    ∷ rest 1 (rtt_of 0 0) 0 (held 2 4) calm
    ∷ rest 1 (rtt_of 0 0) 0 (held 1 5) calm
    ∷ rest 1 (rtt_of 0 0) 0 None (next (2 ^ 49))
    ∷ [])
    ≡ replicate 29 false
unfolding computes
damaged = refl

pub lowest : (kept (setting 0 0 0 0 0 0 0) (fresh small Unlimited) ≡ false)
    × (nak_verdict small ((2 ^ 31) ∷ []) 0 (books (sent ∷ []) 7 [] 64) ≡ Err BadState)
unfolding computes
lowest = (refl, refl)

-- "Each counts up and wraps to 0": the message counter
pub wraps : (calls small (message 0 0 [] ∷ []) (rest 1 (rtt_of 0 0) (2 ^ 26 - 1) None calm)).messages ≡ 0
unfolding computes
wraps = refl
