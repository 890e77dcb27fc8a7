-- Document 01, "Message" and "Byte count". How a message is split is defined in rules_packets, pacing in rules_pacing.
--   packet_of, packets_of   "It becomes max(1, ceil(length / size)) packets": packet k, and all of them
--   packets_from            n of them, from packet k on
--   make_room, gone         "Pushing into a full buffer first removes the front packet, from the loss list too.": the
--                           sender afterwards, and the packet removed
--   append                  one packet pushed
--   push_all, gone_by       all packets pushed, and the packets removed by that
--   begin                   the counter "goes up once per message"; pacing "takes the packets made and their payload
--                           bytes"; a flushed payload is no longer held
--   push                    the sender after a message
--   period_of               "any new period"
--   written, stored         the store after a message: "Only pushed payload bytes change."
use Rattle.std.specs.Prelude.{cond, List, [], ◌∷◌, ◌++◌, ℕ, zero, suc, ◌+◌, ◌-◌, ◌%◌, ◌^◌, leb, length, take, drop, Option, Some, None, Result, Ok, Err}
use Rattle.std.proofs.Math.Seq.{paste}
use Rattle.rules_numbers.specs.Modular.{msgs}
use Rattle.rules_packets.specs.Split.{count, piece_of, start_of, length_of}
use Rattle.rules_pacing.specs.Pacing.{after}
use Rattle.rules.specs.Settings.{Settings, capacity, place_of}
use Rattle.rules.specs.Sender.{Packet, Sender, remove, wire_sizes}
use Rattle.rules_refusals.specs.declared.Refusal.{Refusal}
use Rattle.rules_pacing.specs.declared.SenderCongestionControl.{SenderCongestionControl}

unfoldable pub packet_of : Settings → ℕ → ℕ → ℕ → ℕ → Packet
packet_of c time message len k =
    let piece = piece_of c.size len k in
    record { time = time; message = message; place = piece.place; len = piece.len; count = 0; resend = 0 }

-- n packets from packet k on
unfoldable pub packets_from : Settings → ℕ → ℕ → ℕ → ℕ → ℕ → List Packet
packets_from c time message len k zero = []
packets_from c time message len k (suc n) = packet_of c time message len k ∷ packets_from c time message len (suc k) n

abbrev pub packets_of : Settings → ℕ → ℕ → ℕ → List Packet
packets_of c time message len = packets_from c time message len 0 (count c.size len)

unfoldable pub gone : Settings → Sender → List Packet
gone c s = cond (leb (capacity c) (length s.packets)) (take 1 s.packets) []

-- "minus on removal by a full buffer"
unfoldable pub make_room : Settings → Sender → Sender
make_room c s = cond (leb (capacity c) (length s.packets)) (remove 1 (s.bytes - wire_sizes c (take 1 s.packets)) s) s

-- "Plus wire size on a push"
unfoldable pub append : Settings → Packet → Sender → Sender
append c p s = record {
  packets = s.packets ++ (p ∷ []);
  front = s.front;
  next = s.next;
  lost = s.lost;
  bytes = s.bytes + (p.len + c.overhead);
  rtt = s.rtt;
  messages = s.messages;
  expected = s.expected;
  held = s.held;
  pacing = s.pacing;
  pushed = s.pushed + 1;
}

unfoldable pub push_all : Settings → List Packet → Sender → Sender
push_all c [] s = s
push_all c (p ∷ ps) s = push_all c ps (append c p (make_room c s))

unfoldable pub gone_by : Settings → List Packet → Sender → List Packet
gone_by c [] s = []
gone_by c (p ∷ ps) s = gone c s ++ gone_by c ps (append c p (make_room c s))

unfoldable pub begin : Settings → ℕ → ℕ → Sender → Sender
begin c now len s = record {
  packets = s.packets;
  front = s.front;
  next = s.next;
  lost = s.lost;
  bytes = s.bytes;
  rtt = s.rtt;
  messages = (s.messages + 1) % msgs;
  expected = s.expected;
  held = None;
  pacing = after s.pacing now (count c.size len) len;
  pushed = s.pushed;
}

-- a message of len bytes with this time, pushed at now
unfoldable pub push : Settings → ℕ → ℕ → ℕ → Sender → Sender
push c time now len s = push_all c (packets_of c time s.messages len) (begin c now len s)

abbrev pub period_of : Result (Option ℕ × SenderCongestionControl) Refusal → Option ℕ
period_of (Ok (None, pacing)) = None
period_of (Ok (Some period, pacing)) = Some period
period_of (Err r) = None

-- n packets from packet i on, the first being the k-th ever pushed: each payload is written to its slot
unfoldable pub written : Settings → List ℕ → ℕ → ℕ → ℕ → List ℕ → List ℕ
written c payload k i zero store = store
written c payload k i (suc n) store =
    written c payload (suc k) (suc i) n
    (paste store (place_of c k) (drop (start_of c.size i) payload) (length_of c.size (length payload) i))

unfoldable pub stored : Settings → List ℕ → Sender → List ℕ → List ℕ
stored c payload s store = written c payload s.pushed 0 (count c.size (length payload)) store
