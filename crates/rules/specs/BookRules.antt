-- Document 01, "Book rules", in its order. A call is refused with 3, BadState, exactly where `kept` is false.
--   every ts                               whether all of the tests hold
--   all t ps                               whether t holds of every packet of ps
--   ascends lo hi xs                       whether xs ascends without repeats, from lo on and below hi
--   sent_kept, unsent_kept, held_is_kept   the rules of a sent packet, of an unsent one, of a flushed one
--   kept c s                               the book rules
-- Three rules hold of any `Sender`: packet numbers are consecutive; one past the back is the number that the next
-- packet gets; and with none buffered next unsent is that number, as it lies between the front and one past the back.
-- An unsent packet has transmit count 0, and resend time 0 means none. Timers are apart: rules_timers.
use Rattle.std.specs.Prelude.{Bool, true, ◌&&◌, List, [], ◌∷◌, ℕ, suc, ◌^◌, ltb, leb, eqb, length, take, drop, Option, Some, None}
use Rattle.rules_numbers.specs.Modular.{msgs}
use Rattle.rules_numbers.specs.Limits.{time_limit, transmit_most, bytes_limit}
use Rattle.rules_numbers.specs.Rtt as Rtt
use Rattle.rules_pacing.specs.Kept as Pacing
use Rattle.rules.specs.Settings.{Settings, in_range, capacity}
use Rattle.rules.specs.Sender.{Packet, Held, Sender, end, sent_of, wire_sizes}

unfoldable pub every : List Bool → Bool
every [] = true
every (t ∷ ts) = t && every ts

unfoldable pub all : (Packet → Bool) → List Packet → Bool
all t [] = true
all t (p ∷ ps) = t p && all t ps

unfoldable pub ascends : ℕ → ℕ → List ℕ → Bool
ascends lo hi [] = true
ascends lo hi (x ∷ xs) = leb lo x && (ltb x hi && ascends (suc x) hi xs)

-- "sent packets .. have a transmit count of at least 1 (held at 65,535) and a resend time below 2^49"
unfoldable pub sent_kept : Settings → Packet → Bool
sent_kept c p = every (
    ltb p.time time_limit
    ∷ ltb p.message msgs
    ∷ leb p.len c.size
    ∷ leb 1 p.count
    ∷ leb p.count transmit_most
    ∷ ltb p.resend (2 ^ 49)
    ∷ []
    )

-- ".. and only those"
unfoldable pub unsent_kept : Settings → Packet → Bool
unsent_kept c p = every (
    ltb p.time time_limit
    ∷ ltb p.message msgs
    ∷ leb p.len c.size
    ∷ eqb p.count 0
    ∷ eqb p.resend 0
    ∷ []
    )

unfoldable pub held_is_kept : Settings → Option Held → Bool
held_is_kept c None = true
held_is_kept c (Some h) = ltb h.slot (capacity c) && leb h.len c.size

unfoldable pub kept : Settings → Sender → Bool
kept c s = every (
    -- "every other kept field in the range given here": the settings
    in_range c
    -- "packets number at most the capacity"
    ∷ leb (length s.packets) (capacity c)
    -- "next unsent between the front and one past the back"
    ∷ leb s.front s.next
    ∷ leb s.next (end s)
    -- "the loss list ascending from the front, without repeats, all sent"
    ∷ ascends s.front s.next s.lost
    -- "sent packets, and only those, have ..; times below 2^48; payloads at most packet size"
    ∷ all (sent_kept c) (take (sent_of s) s.packets)
    ∷ all (unsent_kept c) (drop (sent_of s) s.packets)
    -- "byte count below 2^62 and not below the sum of buffered wire sizes"
    ∷ ltb s.bytes bytes_limit
    ∷ leb (wire_sizes c s.packets) s.bytes
    -- "pacing's next below 2^49, its counts at most 2^38, means and variances at most 2^42"
    ∷ Pacing.kept s.pacing
    -- "the expected full number 1 to 2^32"
    ∷ leb 1 s.expected
    ∷ leb s.expected (2 ^ 32)
    -- "every other kept field": RTT, message counter, flushed packet
    ∷ Rtt.in_range s.rtt
    ∷ ltb s.messages msgs
    ∷ held_is_kept c s.held
    ∷ []
    )
