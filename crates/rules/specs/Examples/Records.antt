-- Worked examples of records, from document 01, "Action record": "24 bytes, little-endian, no header".
--   every_byte     each byte of each field in its place
--   a-resend       a resend by time written out: number, message, stamp and time use all the bytes they may
--   numbers-wrap   "A sequence number is 31 bits": those of sends, of resends, of a flush, of a drop and its end
use Rattle.std.specs.Prelude.{◌≡◌, refl, false, true, List, [], ◌∷◌, ◌+◌, ◌-◌, ◌*◌, ◌^◌, ℕ, length}
use Rattle.rules_packets.specs.declared.Place.TheVariants.{First}
use Rattle.rules.specs.Calls.{runs}
use Rattle.rules.specs.Computing.{computes}
use Rattle.rules.specs.Records.{ByTime, WaitAck, encode, send_record}
use Rattle.rules.specs.Sender.{Packet, Sender, put}
use Rattle.rules.specs.Examples.{small, sent, shows, begun, packet_at}

-- kind u8, flags u8, length u16, number u32, word u32, stamp u32, time u64: the lowest byte first
pub every_byte : encode (record {
  kind = WaitAck;
  flags = 0x02;
  len = 0x04_03;
  number = 0x08_07_06_05;
  word = 0x0C_0B_0A_09;
  stamp = 0x10_0F_0E_0D;
  time = 0x18_17_16_15_14_13_12_11;
})
    ≡ 0x06 ∷ 0x02 ∷ 0x03 ∷ 0x04 ∷ 0x05 ∷ 0x06 ∷ 0x07 ∷ 0x08 ∷ 0x09 ∷ 0x0A ∷ 0x0B ∷ 0x0C
    ∷ 0x0D ∷ 0x0E ∷ 0x0F ∷ 0x10 ∷ 0x11 ∷ 0x12 ∷ 0x13 ∷ 0x14 ∷ 0x15 ∷ 0x16 ∷ 0x17 ∷ 0x18 ∷ []
unfolding computes
every_byte = refl

-- time B4A392817060 (48 bits), so stamp 92817060; message 3A29180 (26 bits); 423 hex bytes of payload; sent once before
abbrev far : Packet
far = record { time = 0xB4A3_9281_7060; message = 0x03A2_9180; place = First; len = 0x0423; count = 1; resend = 9 }

-- kind 2, place 10 and retransmitted; the number is 7A6B5C4D (31 bits), met for the second time
pub a-resend : encode (send_record ByTime (2 ^ 31 + 0x7A6B_5C4D) far)
    ≡ 0x02 ∷ 0x81 ∷ 0x23 ∷ 0x04 ∷ 0x4D ∷ 0x5C ∷ 0x6B ∷ 0x7A ∷ 0x80 ∷ 0x91 ∷ 0xA2 ∷ 0x03
    ∷ 0x60 ∷ 0x70 ∷ 0x81 ∷ 0x92 ∷ 0x60 ∷ 0x70 ∷ 0x81 ∷ 0x92 ∷ 0xA3 ∷ 0xB4 ∷ 0x00 ∷ 0x00 ∷ []
unfolding computes
a-resend = refl

-- a sender with these packets from number n on, k of them sent, and this loss list
abbrev at : ℕ → List Packet → ℕ → List ℕ → Sender
at n ps k lost = put (begun (small 0 9 9)) ps n (n + k) lost (length ps * 29)

abbrev once : Packet
once = packet_at 0 0 1 1_000

abbrev unsent : Packet
unsent = packet_at 0 1 0 0

-- due at 901, so before the one above; its payload is one byte, its message 1
abbrev sooner : Packet
sooner = packet_at 7 1 1 900

-- 2^31 + 5 is number 5 and 2^31 + 6 is number 6: sent, by loss, by time, flushed; dropped, also from 2^31 − 1 through 0
pub numbers-wrap :
    (sent (small 0 9 9) (runs 0 2 false 9 ∷ []) (at (2 ^ 31 + 5) (unsent ∷ unsent ∷ []) 0 []) ≡ (1 ∷ 5 ∷ []) ∷ (1 ∷ 6 ∷ []) ∷ [])
    × (sent (small 0 9 9) (runs 0 1 false 9 ∷ []) (at (2 ^ 31 + 5) (once ∷ once ∷ []) 2 ((2 ^ 31 + 6) ∷ [])) ≡ (3 ∷ 6 ∷ []) ∷ [])
    × (sent (small 0 9 9) (runs 1_001 1 false 9 ∷ []) (at (2 ^ 31 + 5) (once ∷ once ∷ []) 2 []) ≡ (2 ∷ 5 ∷ []) ∷ [])
    × (shows (small 0 9 9) (runs 1_001 1 false 9 ∷ []) (at (2 ^ 31 + 5) (once ∷ sooner ∷ []) 2 []) ≡ (2 ∷ 193 ∷ 1 ∷ 6 ∷ 1 ∷ 7 ∷ 7 ∷ []) ∷ [])
    × (sent (small 0 9 9) (runs 0 1 true 9 ∷ []) (at (2 ^ 31 + 5) (once ∷ []) 1 []) ≡ (1 ∷ 5 ∷ []) ∷ [])
    × (shows (small 0 9 9) (runs 1_000_001 1 false 9 ∷ []) (at (2 ^ 31 + 5) (once ∷ once ∷ []) 2 [])
    ≡ (4 ∷ 0 ∷ 0 ∷ 5 ∷ 7 ∷ 0 ∷ 0 ∷ []) ∷ (5 ∷ 0 ∷ 0 ∷ 0 ∷ 0 ∷ 0 ∷ 0 ∷ []) ∷ [])
    × (shows (small 0 9 9) (runs 1_000_001 1 false 9 ∷ []) (at (2 ^ 31 - 1) (once ∷ once ∷ []) 2 [])
    ≡ (4 ∷ 0 ∷ 0 ∷ (2 ^ 31 - 1) ∷ 1 ∷ 0 ∷ 0 ∷ []) ∷ (5 ∷ 0 ∷ 0 ∷ 0 ∷ 0 ∷ 0 ∷ 0 ∷ []) ∷ [])
unfolding computes
numbers-wrap = (refl, refl, refl, refl, refl, refl, refl)
