-- Document 01, "Book rules", on the kept numbers and the lent areas: "packets number at most the capacity; .. next
-- unsent between the front and one past the back ..; the loss list ascending from the front, without repeats, all sent;
-- sent packets, and only those, have a transmit count of at least 1 (held at 65,535) and a resend time below 2^49;
-- times below 2^48; payloads at most packet size; byte count below 2^62 and not below the sum of buffered wire sizes;
-- .. the expected full number 1 to 2^32; every other kept field in the range given here." A host entry refuses with 3,
-- BadState, exactly where `kept` is false, after testing for 2, BadStore, whether an area is too short.
--   flushed_kept c f                       the rules of the flushed packet
--   numbers_kept c b                       the rules of the kept numbers
--   areas_kept c b n m                     whether n words hold the ring and m the loss list, by the capacity
--   all t es                               whether t holds of every entry of es
--   packet_entry c e                       the rules of any packet's entry
--   sent_entry, unsent_entry, entry_kept   the rules of a sent packet's entry, of an unsent one's, of either
--   entries_kept c b xs                    the rules of every packet's entry in the words xs
--   kept c st                              the book rules
-- Packet numbers are consecutive in any books. Pacing and the timers are checked elsewhere.
pub mod Entries
pub mod Laws
pub mod Stands
use Rattle.std.specs.Prelude.{Bool, true, false, ◌&&◌, List, [], ◌∷◌, ℕ, ◌^◌, ltb, leb, eqb, length, take, drop, Option, Some, None}
use Rattle.rules_numbers.specs.Rtt as Rtt
use Rattle.ring.specs.declared.Entry.{Entry}
use Rattle.ring.specs.Ring.{packets, placed}
use Rattle.loss_list.specs.LossList.{keeps}
use Rattle.rules.specs.Settings.{Settings, in_range, capacity}
use Rattle.rules.specs.Sender.{wire_sizes}
use Rattle.rules.specs.BookRules.{sent_kept, unsent_kept}
use Rattle.buffer.specs.declared.SendBuffer.{SendBuffer}
use Rattle.buffer.specs.State.{State, packet_of, view}
use Rattle.buffer.specs.declared.FlushedPacket.{FlushedPacket}

abbrev pub flushed_kept : Settings → Option FlushedPacket → Bool
flushed_kept c None = true
flushed_kept c (Some p) = ltb p.number.0 (2 ^ 31) && (ltb p.slot (capacity c) && leb p.len c.size)

-- "next unsent between the front and one past the back", "byte count below 2^62", "the expected full number 1 to 2^32",
-- and the ranges of the other fields
unfoldable pub numbers_kept : Settings → SendBuffer → Bool
numbers_kept c b =
    in_range c && (ltb b.front.0 (2 ^ 31) && (leb b.sent b.ring.len && (ltb b.bytes (2 ^ 62) && (leb 1 b.expected
    && (leb b.expected (2 ^ 32) && (Rtt.in_range b.rtt && (ltb b.message.0 (2 ^ 26) && flushed_kept c b.flushed)))))))

-- "packets number at most the capacity"
unfoldable pub areas_kept : Settings → SendBuffer → ℕ → ℕ → Bool
areas_kept c b n m = placed b.ring n && (eqb b.ring.cap (capacity c) && leb b.ring.cap m)

unfoldable pub all : (Entry → Bool) → List Entry → Bool
all t [] = true
all t (e ∷ es) = t e && all t es

-- what holds of sent and unsent packets alike: "times below 2^48; payloads at most packet size"; two bits are the place
abbrev pub packet_entry : Settings → Entry → Bool
packet_entry c e = leb e.place 3 && (ltb e.time (2 ^ 48) && (ltb e.message (2 ^ 26) && leb e.len c.size))

-- "sent packets .. have a transmit count of at least 1 (held at 65,535) and a resend time below 2^49"; two bits are
-- the place
unfoldable pub sent_entry : Settings → Entry → Bool
sent_entry c e = leb e.place 3 && sent_kept c (packet_of e)

-- ".. and only those"
unfoldable pub unsent_entry : Settings → Entry → Bool
unsent_entry c e = leb e.place 3 && unsent_kept c (packet_of e)

-- the rules of a sent or unsent packet's entry
abbrev pub entry_kept : Settings → Bool → Entry → Bool
entry_kept c true e = sent_entry c e
entry_kept c false e = unsent_entry c e

unfoldable pub entries_kept : Settings → SendBuffer → List ℕ → Bool
entries_kept c b xs = all (entry_kept c true) (take b.sent (packets b.ring xs)) && all (entry_kept c false) (drop b.sent (packets b.ring xs))

unfoldable pub kept : Settings → State → Bool
kept c st =
    let b = st.books in
    (numbers_kept c b && areas_kept c b (length st.ring) (length st.lost))
    && (entries_kept c b st.ring
    -- "not below the sum of buffered wire sizes"; "the loss list ascending from the front, without repeats, all sent"
    && (leb (wire_sizes c (view st)) b.bytes && keeps b.front.0 b.sent b.lost st.lost))
