-- The books together with the lent areas, and the packets and loss list that they hold.
--   State, state       the kept numbers, the ring's words, the loss list's words
--   fresh c            the kept numbers of a new sender
--   settings_of c      the settings, as in the rules
--   place_from w       the place in the word w of an entry, by document 01's two bits
--   packet_of e        the packet of an entry
--   packets_of r xs    the packets of a ring in the words xs, from the front
--   view st            the buffered packets
--   lost_of st         the loss list as it is in its area: farthest first
--   put b ..           b with another ring, front, sent count, loss count and byte count
--   flushed_packet ..  a flushed packet, from its number, slot and length
--   with_others b ..   b with another RTT, message number, expected full number and flushed packet
pub mod Facts
pub mod Fresh
pub mod Reports
pub mod Slots
pub mod Stands
pub mod View
use Rattle.std.specs.Prelude.{List, map, ℕ, zero, suc, take, Option, None}
use Rattle.rules_numbers.specs.declared.MsgNumber.{MsgNumber}
use Rattle.rules_numbers.specs.declared.SeqNumber.{SeqNumber}
use Rattle.rules_packets.specs.declared.Place.{Place}
use Rattle.rules_packets.specs.declared.Place.TheVariants.{First, Middle, Last, Only}
use Rattle.ring.specs.declared.Entry.{Entry}
use Rattle.ring.specs.declared.Ring.{Ring}
use Rattle.ring.specs.Ring.{packets}
use Rattle.rules_numbers.specs.declared.Rtt.{Rtt}
use Rattle.rules_numbers.specs.Rtt.{start}
use Rattle.rules.specs.Settings as rules
use Rattle.rules.specs.Sender.{Packet}
use Rattle.buffer.specs.declared.Settings.{Settings}
use Rattle.buffer.specs.declared.SendBuffer.{SendBuffer}
use Rattle.buffer.specs.declared.FlushedPacket.{FlushedPacket}

pub record State : Type 0 where
  pub books : SendBuffer
  pub ring : List ℕ
  pub lost : List ℕ

abbrev pub state : SendBuffer → List ℕ → List ℕ → State
state b ring lost = record { books = b; ring = ring; lost = lost }

abbrev pub settings_of : Settings → rules.Settings
settings_of c = record {
  first = c.first;
  size = c.size;
  buffer = c.buffer;
  flow = c.flow;
  latency = c.latency;
  overhead = c.overhead;
  socket = c.socket;
}

abbrev pub place_from : ℕ → Place
place_from zero = Middle
place_from (suc zero) = Last
place_from (suc (suc zero)) = First
place_from (suc (suc (suc w))) = Only

unfoldable pub packet_of : Entry → Packet
packet_of e = record {
  time = e.time;
  message = e.message;
  place = place_from e.place;
  len = e.len;
  count = e.count;
  resend = e.resend;
}

unfoldable pub packets_of : Ring → List ℕ → List Packet
packets_of r xs = map packet_of (packets r xs)

abbrev pub view : State → List Packet
view st = packets_of st.books.ring st.ring

abbrev pub lost_of : State → List ℕ
lost_of st = take st.books.lost st.lost

abbrev pub put : SendBuffer → Ring → ℕ → ℕ → ℕ → ℕ → SendBuffer
put b ring front sent lost bytes = record {
  ring = ring;
  front = record { 0 = front };
  sent = sent;
  lost = lost;
  bytes = bytes;
  rtt = b.rtt;
  message = b.message;
  expected = b.expected;
  flushed = b.flushed;
}

abbrev pub flushed_packet : SeqNumber → ℕ → ℕ → FlushedPacket
flushed_packet number slot len = record { number = number; slot = slot; len = len }

abbrev pub with_others : SendBuffer → Rtt → MsgNumber → ℕ → Option FlushedPacket → SendBuffer
with_others b rtt message expected flushed = record {
  ring = b.ring;
  front = b.front;
  sent = b.sent;
  lost = b.lost;
  bytes = b.bytes;
  rtt = rtt;
  message = message;
  expected = expected;
  flushed = flushed;
}

abbrev pub fresh : rules.Settings → SendBuffer
fresh c = record {
  ring = record { cap = rules.capacity c; slot = 0; len = 0 };
  front = record { 0 = c.first };
  sent = 0;
  lost = 0;
  bytes = 0;
  rtt = start;
  message = record { 0 = 0 };
  expected = 1;
  flushed = None;
}
