-- Document 01, "What the hub takes from the crate": "the reports flushed, has packets to send, buffered packets, bytes
-- and time (back's time less front's, 0 if negative or nothing is buffered)"; and where a payload lies.
--   is_flushed s             nothing is buffered and the loss list is empty
--   has_packets_to_send s      the next unsent is buffered, or the loss list is not empty (is_empty)
--   buffered_packets, buffered_bytes, buffered_time   the other three reports (time_of: the time of a list of packets)
--   Lies, payload_of c s n   where the payload of the 31-bit number n lies in the store; none where it isn't held. Held
--                           are the buffered packets, and the flushed one (held_of) "until the next accepted message"
use Rattle.std.specs.Prelude.{Bool, true, false, cond, not, ◌&&◌, ◌||◌, List, [], ◌∷◌, ℕ, ◌+◌, ◌-◌, ◌*◌, ltb, eqb, length, get_or, Option, Some, None}
use Rattle.rules.specs.Numbers.{wire, distance}
use Rattle.rules.specs.Settings.{Settings, place_of}
use Rattle.rules.specs.Sender.{Packet, Held, Sender, nothing, end, packet, push_of}

abbrev pub is_empty : List ℕ → Bool
is_empty [] = true
is_empty (x ∷ xs) = false

unfoldable pub is_flushed : Sender → Bool
is_flushed s = is_empty s.lost && eqb (length s.packets) 0

unfoldable pub has_packets_to_send : Sender → Bool
has_packets_to_send s = ltb s.next (end s) || not (is_empty s.lost)

abbrev pub buffered_packets : Sender → ℕ
buffered_packets s = length s.packets

abbrev pub buffered_bytes : Sender → ℕ
buffered_bytes s = s.bytes

-- subtraction of natural numbers stops at 0
unfoldable pub time_of : List Packet → ℕ
time_of [] = 0
time_of (p ∷ ps) = (get_or (p ∷ ps) (length ps) nothing).time - p.time

unfoldable pub buffered_time : Sender → ℕ
buffered_time s = time_of s.packets

pub record Lies : Type 0 where
  pub place : ℕ
  pub len : ℕ

unfoldable pub held_of : Settings → Option Held → ℕ → Option Lies
held_of c None n = None
held_of c (Some h) n = cond (eqb (wire h.number) n) (Some (record { place = h.slot * c.size; len = h.len })) None

unfoldable pub payload_of : Settings → Sender → ℕ → Option Lies
payload_of c s n =
    let d = distance (wire s.front) n in
    cond (ltb d (length s.packets))
    (Some (record { place = place_of c (push_of s (s.front + d)); len = (packet s (s.front + d)).len }))
    (held_of c s.held n)
