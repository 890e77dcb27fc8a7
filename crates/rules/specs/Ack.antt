-- Document 01, "ACK". "First to next unsent, inclusive. RTT is taken over; then the full number is tested (expected
-- starts at 1; after n it is n + 1, without wrapping). Loss entries below the ACK go (`recovered`), then packets below
-- it (`received`). Both counts and the full number are returned."
--   ack_of s n               how far the ACK's number lies after the front: the number of packets acknowledged
--   given o a                the value in o, or a where there is none
--   take_rtt rtt s           the RTT taken over, where the ACK has one
--   expect full e            the expected full number after an accepted ACK
--   acknowledge c d full s   d packets acknowledged
--   recovered, received      the two counts
use Rattle.std.specs.Prelude.{ℕ, ◌+◌, ◌-◌, length, take, drop, Option, Some, None}
use Rattle.rules_numbers.specs.declared.Rtt.{Rtt}
use Rattle.rules.specs.Numbers.{wire, distance}
use Rattle.rules.specs.Settings.{Settings}
use Rattle.rules.specs.Sender.{Sender, from, below, wire_sizes}

abbrev pub ack_of : Sender → ℕ → ℕ
ack_of s n = distance (wire s.front) n

unfoldable pub given : {A : Type 0} → Option A → A → A
given None a = a
given (Some b) a = b

unfoldable pub take_rtt : Option Rtt → Sender → Sender
take_rtt rtt s = record {
  packets = s.packets;
  front = s.front;
  next = s.next;
  lost = s.lost;
  bytes = s.bytes;
  rtt = given rtt s.rtt;
  messages = s.messages;
  expected = s.expected;
  held = s.held;
  pacing = s.pacing;
  pushed = s.pushed;
}

unfoldable pub expect : Option ℕ → ℕ → ℕ
expect None e = e
expect (Some n) e = n + 1

unfoldable pub acknowledge : Settings → ℕ → Option ℕ → Sender → Sender
acknowledge c d full s = record {
  packets = drop d s.packets;
  front = s.front + d;
  next = s.next;
  lost = from (s.front + d) s.lost;
  bytes = s.bytes - wire_sizes c (take d s.packets);
  rtt = s.rtt;
  messages = s.messages;
  expected = expect full s.expected;
  held = s.held;
  pacing = s.pacing;
  pushed = s.pushed;
}

abbrev pub recovered : ℕ → Sender → ℕ
recovered d s = below (s.front + d) s.lost

abbrev pub received : ℕ → Sender → ℕ
received d s = length (take d s.packets)
