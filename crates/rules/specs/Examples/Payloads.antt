-- Worked examples of where payloads lie, and of the period that a message answers, from document 01.
--   lies         "the k-th packet ever pushed (from 0) lies at (k mod capacity) × packet size": the buffered ones
--   flushed      "A flushed payload is held until the next accepted message": its slot and its length
--   by_number    a flushed payload is asked for by its 31-bit number
--   new-period   "any new period": the estimate is from the packets and bytes before this message
use Rattle.std.specs.Prelude.{◌≡◌, refl, false, true, List, [], ◌∷◌, map, ◌-◌, ◌^◌, ℕ, Option, Some, None}
use Rattle.rules_pacing.specs.declared.LiveBandwidthMode.TheVariants.{Estimated}
use Rattle.rules.specs.Calls.{Answer, Call, Found, Pushed, Said, ack, answer, answers, calls, message, payload, runs}
use Rattle.rules.specs.Computing.{computes}
use Rattle.rules.specs.Reports.{Lies, payload_of}
use Rattle.rules.specs.Sender.{Sender, fresh}
use Rattle.rules.specs.Settings.{Settings}
use Rattle.rules.specs.Examples.{small, begun, bytes}

abbrev found : ℕ → ℕ → Option Lies
found place len = Some (record { place = place; len = len })

-- Capacity 3, size 4, first number 2^31 − 2: five bytes are packets of 4 and 1, seven bytes of 4 and 3, with indices 0
-- to 3. The fourth removes the first; it is number 1 and lies in slot 0.
abbrev three : Settings
three = small (2 ^ 31 - 2) 3 9

abbrev four : Sender
four = calls three (message 0 0 (bytes 5) ∷ message 0 0 (bytes 7) ∷ []) (begun three)

-- 2^31 − 1 and 0 acknowledged
abbrev one : Sender
one = calls three (runs 0 3 false 9 ∷ ack 1 None None ∷ []) four

pub lies :
    (map (payload_of three four) ((2 ^ 31 - 2) ∷ (2 ^ 31 - 1) ∷ 0 ∷ 1 ∷ 2 ∷ []) ≡ None ∷ found 4 1 ∷ found 8 4 ∷ found 0 3 ∷ None ∷ [])
    × (map (payload_of three one) ((2 ^ 31 - 1) ∷ 0 ∷ 1 ∷ 2 ∷ []) ≡ None ∷ None ∷ found 0 3 ∷ None ∷ [])
unfolding computes
lies = (refl, refl)

-- Capacity 3, first number 5: twenty bytes are five packets, 5 to 9, all gone by the ACK of 10; then three bytes are
-- packet 10, the one with index 5, so slot 2 of three, at 2 × 4. It is sent and flushed.
abbrev last : Sender
last = calls (small 5 3 9)
    (message 0 0 (bytes 20) ∷ runs 0 3 false 9 ∷ ack 10 None None ∷ message 0 0 (bytes 3) ∷ runs 0 2 true 9 ∷ []) (begun (small 5 3 9))

pub flushed :
    (last.held ≡ Some (record { number = 10; slot = 2; len = 3 }))
    × ((answer (small 5 3 9) (payload 10) last).said ≡ Found (found 8 3))
    × (map (payload_of (small 5 3 9) last) (2 ∷ 9 ∷ 11 ∷ []) ≡ None ∷ None ∷ None ∷ [])
unfolding computes
flushed = (refl, refl, refl)

-- First number 2^31 − 1, so the second packet, of three bytes in slot 1, is number 0. The first is acknowledged, the
-- second flushed.
abbrev zeroth : Sender
zeroth = calls (small (2 ^ 31 - 1) 3 9)
    (message 0 0 (bytes 4) ∷ message 0 0 (bytes 3) ∷ runs 0 2 false 9 ∷ ack 0 None None ∷ runs 0 1 true 9 ∷ [])
    (begun (small (2 ^ 31 - 1) 3 9))

pub by_number : map (payload_of (small (2 ^ 31 - 1) 3 9) zeroth) ((2 ^ 31 - 1) ∷ 0 ∷ 1 ∷ []) ≡ None ∷ found 4 3 ∷ None ∷ []
unfolding computes
by_number = refl

-- ## The period

abbrev hundred : Settings
hundred = record { first = 0; size = 100; buffer = 9; flow = 9; latency = 0; overhead = 28; socket = 7 }

abbrev answered : List Call → List Said
answered ks = map (λ (a : Answer). a.said) (answers hundred ks (fresh hundred (Estimated 1_000 25)))

-- At 0 and 50,000 come 3 + 1 packets with 350 bytes. At 100,000: 40 packets and 3,500 bytes per second, 87 bytes each;
-- allowed 3,500 × 125 / 100 = 4,375; 87,000,000 / 4,375 = 19,885. The next is due at 200,000, and at 350,000 it covers
-- 200,000 µs with the one packet of 10 bytes: rates 5 and 50, means 285 / 8 = 35 and 24,550 / 8 = 3,068, 87 bytes each;
-- allowed 3,835; 22,685. Then none before 400,000, where 2 packets without payload make rates 20 and 0, means 265 / 8 =
-- 33 and 21,476 / 8 = 2,684, 81 bytes each; allowed 3,355; 81,000,000 / 3,355 = 24,143.
pub new-period : answered
    (message 7 0 (bytes 250)
    ∷ message 7 50_000 (bytes 100)
    ∷ message 7 100_000 (bytes 10)
    ∷ message 7 350_000 []
    ∷ message 400_000 399_999 []
    ∷ message 7 400_000 (bytes 1)
    ∷ [])
    ≡ Pushed 3 0 0 None
    ∷ Pushed 1 0 0 None
    ∷ Pushed 1 0 0 (Some 19_885)
    ∷ Pushed 1 0 0 (Some 22_685)
    ∷ Pushed 1 0 0 None
    ∷ Pushed 1 0 0 (Some 24_143)
    ∷ []
unfolding computes
new-period = refl
