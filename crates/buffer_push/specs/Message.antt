-- A message on the books and the lent areas. Document 01, "Message": "It becomes max(1, ceil(length / size)) packets ..
-- Pushing into a full buffer first removes the front packet, from the loss list too. .. Answer: packets made, packets
-- removed, wire bytes removed"; "Byte count": "Plus wire size on a push, minus on removal by a full buffer".
-- Message.Laws and Message.OnePacket show that this agrees with the rules.
--   entry_of c t m len k   the entry of packet k of a message of len bytes
--   gone, make_room c st   the packet removed from a full buffer, and the state without it
--   append c e st          one more packet at the back
--   Work, work             the state with the three counts of the answer
--   Pushing, pushing       the same with the store
--   roomed, appended       make_room and append, with the counts
--   next_place c st        where the payload of the next packet goes in the store
--   push_one, pushes       the next packet of a message, and the next n
--   begun b                the books once the message has its number and no flushed payload is held
--   none_yet b, opened     these books with no packet made yet; the pushing that starts from them
--   message                the whole message
pub mod Laws
pub mod OnePacket
pub mod Parts
pub mod Rest
pub mod Whole
use Rattle.std.specs.Prelude.{cond, List, [], ℕ, zero, suc, ◌+◌, ◌-◌, ◌*◌, leb, length, take, drop, None}
use Rattle.std.proofs.Math.Seq.{paste}
use Rattle.rules_numbers.specs.Modular.{msgs, plus}
use Rattle.rules_packets.specs.Header.{place_bits}
use Rattle.rules_packets.specs.Split.{count, place_of, start_of, length_of}
use Rattle.ring.specs.declared.Entry.{Entry}
use Rattle.ring.specs.Entry.{entry, write_e}
use Rattle.ring.specs.Ring.{slot_of, pushed}
use Rattle.rules.specs.Settings.{Settings}
use Rattle.rules.specs.Sender.{Packet, wire_sizes}
use Rattle.buffer.specs.declared.SendBuffer.{SendBuffer}
use Rattle.buffer.specs.State.{State, state, view, put}
use Rattle.buffer.specs.Removal.{removed}
use Rattle.buffer_push.specs.declared.Pushed.{Pushed}

unfoldable pub entry_of : Settings → ℕ → ℕ → ℕ → ℕ → Entry
entry_of c time message len k =
    entry time message (place_bits (place_of (count c.size len) k)) (length_of c.size len k) 0 0

unfoldable pub gone : Settings → State → List Packet
gone c st = cond (leb st.books.ring.cap st.books.ring.len) (take 1 (view st)) []

unfoldable pub make_room : Settings → State → State
make_room c st =
    cond (leb st.books.ring.cap st.books.ring.len) (removed 1 (st.books.bytes - wire_sizes c (take 1 (view st))) st) st

unfoldable pub append : Settings → Entry → State → State
append c e st =
    let b = st.books in
    record {
      books = put b (pushed b.ring) b.front.0 b.sent b.lost (b.bytes + (e.len + c.overhead));
      ring = write_e st.ring (slot_of b.ring b.ring.len) e;
      lost = st.lost;
    }

pub record Work : Type 0 where
  pub state : State
  pub made : ℕ
  pub removed : ℕ
  pub wire : ℕ

abbrev pub work : Pushed → List ℕ → List ℕ → Work
work p ring lost = record { state = state p.buffer ring lost; made = p.made; removed = p.removed; wire = p.bytes }

pub record Pushing : Type 0 where
  pub work : Work
  pub store : List ℕ

abbrev pub pushing : Work → List ℕ → Pushing
pushing w store = record { work = w; store = store }

unfoldable pub roomed : Settings → Work → Work
roomed c w = record {
  state = make_room c w.state;
  made = w.made;
  removed = w.removed + length (gone c w.state);
  wire = w.wire + wire_sizes c (gone c w.state);
}

unfoldable pub appended : Settings → Entry → Work → Work
appended c e w = record { state = append c e w.state; made = suc w.made; removed = w.removed; wire = w.wire }

-- where the payload of the next packet goes
abbrev pub next_place : Settings → State → ℕ
next_place c st = slot_of st.books.ring st.books.ring.len * c.size

module _ (c : Settings) (time number : ℕ) (payload : List ℕ) where
  unfoldable pub push_one : Pushing → Pushing
  push_one w =
      let i = w.work.made in
      let r = roomed c w.work in
      record {
        work = appended c (entry_of c time number (length payload) i) r;
        store = paste w.store (next_place c r.state) (drop (start_of c.size i) payload) (length_of c.size (length payload) i);
      }

  unfoldable pub pushes : ℕ → Pushing → Pushing
  pushes zero w = w
  pushes (suc n) w = pushes n (push_one w)

unfoldable pub begun : SendBuffer → SendBuffer
begun b = record {
  ring = b.ring;
  front = b.front;
  sent = b.sent;
  lost = b.lost;
  bytes = b.bytes;
  rtt = b.rtt;
  message = record { 0 = plus msgs b.message.0 1 };
  expected = b.expected;
  flushed = None;
}

abbrev pub none_yet : SendBuffer → Pushed
none_yet b = record { buffer = b; made = 0; removed = 0; bytes = 0 }

unfoldable pub opened : State → List ℕ → Pushing
opened st store = pushing (work (none_yet (begun st.books)) st.ring st.lost) store

unfoldable pub message : Settings → ℕ → List ℕ → State → List ℕ → Pushing
message c time payload st store =
    pushes c time st.books.message.0 payload (count c.size (length payload)) (opened st store)
