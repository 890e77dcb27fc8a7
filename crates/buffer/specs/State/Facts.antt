-- What is known of the numbers of books that represent a sender which keeps the book rules: with these bounds the code
-- doesn't overflow, or read outside an area.
--   Ranged c                                      the settings are in their ranges
--   Facts c st                                    the bounds of the kept numbers and the areas
--   Entered c e                                   the bounds of an entry
--   Readable c r ring                             a ring whose entries have these bounds
--   range_facts                                   settings that pass the test are in their ranges
--   stands_facts, stands-readable, stands-entry   these bounds hold of such books
--   stands-sent, stands-unsent, stands-covers
--                       so do the rules of sent and unsent packets, and the byte count is not below the wire sizes
use Rattle.std.specs.Prelude.{◌≡◌, true, List, ℕ, ◌+◌, ◌-◌, ◌^◌, ◌≤◌, ◌<◌, ltb, leb, length, take, drop, get_or}
use Rattle.std.proofs.Common.{sym, ap, ◌∙◌, arith, length-take, length-drop, get_or-take, get_or-drop, ltb-true, leb-true}
use Rattle.std.proofs.Math.Bool.{and-eq-true_iff}
use Rattle.std.proofs.Math.Decide.{dec_lt}
use Rattle.laws.specs.Ascending.{ascends-few}
use Rattle.rtt.specs.Laws as RttOf
use Rattle.ring.specs.declared.Entry.{Entry}
use Rattle.ring.specs.declared.Ring.{Ring}
use Rattle.ring.specs.Entry.{read_e}
use Rattle.ring.specs.Ring.{slot_of}
use Rattle.ring.specs.Ring.Laws.{Placed}
use Rattle.loss_list.specs.LossList.Stands.{stands-length}
use Rattle.rules_theorems.specs.Laws.Numbers.{wire-below}
use Rattle.rules.specs.Settings.{Settings, in_range, capacity}
use Rattle.rules.specs.Sender.{Packet, Sender, sent_of, nothing, wire_sizes}
use Rattle.rules_theorems.specs.Laws.BookRules.{Kept, Sent, Unsent}
use Rattle.rules_theorems.proofs.Packets.{all-at, sizes_drop}
use Rattle.buffer.specs.State.{State, packet_of, packets_of, lost_of}
use Rattle.buffer.specs.State.View.{packets-length, packets-at}
use Rattle.buffer.specs.State.Stands.{Stands}

pub record Ranged (c : Settings) : Type 0 where
  pub first : c.first < 2 ^ 31
  pub least : 1 ≤ c.size
  pub size : c.size ≤ 1_456
  pub buffer : c.buffer ≤ 8_192
  pub flow : c.flow ≤ 65_535
  pub latency : c.latency ≤ 65_535_000
  pub overhead : c.overhead ≤ 128

pub range_facts : (c : Settings) → in_range c ≡ true → Ranged c
unfolding in_range
range_facts c e =
    let a = (and-eq-true_iff (ltb c.first (2 ^ 31)) _).0 e in
    let b = (and-eq-true_iff (leb 1 c.size) _).0 a.1 in
    let d = (and-eq-true_iff (leb c.size 1_456) _).0 b.1 in
    let f = (and-eq-true_iff (leb c.buffer 8_192) _).0 d.1 in
    let g = (and-eq-true_iff (leb c.flow 65_535) _).0 f.1 in
    let h = (and-eq-true_iff (leb c.latency 65_535_000) _).0 g.1 in
    record {
      first = ltb-true _ _ a.0;
      least = leb-true _ _ b.0;
      size = leb-true _ _ d.0;
      buffer = leb-true _ _ f.0;
      flow = leb-true _ _ g.0;
      latency = leb-true _ _ h.0;
      overhead = leb-true _ _ h.1;
    }

pub record Facts (c : Settings) (st : State) : Type 0 where
  pub settings : Ranged c
  pub placed : Placed st.books.ring st.ring
  pub cap : st.books.ring.cap ≡ capacity c
  pub sent : st.books.sent ≤ st.books.ring.len
  pub lost : st.books.lost ≤ st.books.sent
  pub inside : st.books.lost ≤ length st.lost
  pub room : st.books.ring.cap ≤ length st.lost
  pub front : st.books.front.0 < 2 ^ 31
  pub bytes : st.books.bytes < 2 ^ 62
  pub mean : st.books.rtt.mean ≤ 100_000_000
  pub variance : st.books.rtt.variance ≤ 100_000_000
  pub message : st.books.message.0 < 2 ^ 26
  pub least : 1 ≤ st.books.expected
  pub most : st.books.expected ≤ 2 ^ 32

pub record Entered (c : Settings) (e : Entry) : Type 0 where
  pub time : e.time < 2 ^ 48
  pub message : e.message < 2 ^ 26
  pub len : e.len ≤ c.size
  pub most : e.count ≤ 65_535
  pub resend : e.resend < 2 ^ 49

-- a ring whose entries can be read and their wire sizes summed
pub record Readable (c : Settings) (r : Ring) (ring : List ℕ) : Type 0 where
  pub settings : Ranged c
  pub placed : Placed r ring
  pub entered : (i : ℕ) → i < r.len → Entered c (read_e ring (slot_of r i))

module _ {c : Settings} {st : State} {s : Sender} (S : Stands c st s) (K : Kept c s) where
  pub stands_facts : Facts c st
  stands_facts =
      let r = RttOf.in_range-ranged s.rtt K.fields.rtt in
      let o = S.others in
      let n : st.books.ring.len ≡ length s.packets = sym (packets-length st.books.ring st.ring) ∙ ap length S.packets in
      let few = ascends-few s.front s.next s.lost K.good.lost in
      let all : length (lost_of st) ≡ st.books.lost = stands-length S.lost ∙ sym S.count in
      record {
        settings = range_facts c K.fields.settings;
        placed = S.placed;
        cap = S.cap;
        sent = omega (arith, n, S.next, K.good.high);
        lost = omega (arith, S.count, few, S.next);
        inside = let e = length-take st.books.lost st.lost in omega (arith, e, all);
        room = rw S.cap S.room;
        front = rw S.front (wire-below s.front);
        bytes = rw S.bytes K.small;
        mean = rw o.rtt r.mean;
        variance = rw o.rtt r.variance;
        message = rw o.message K.fields.messages;
        least = rw o.expected K.fields.least;
        most = rw o.expected K.fields.most;
      }

  sent_is : sent_of s ≡ st.books.sent
  sent_is = omega (arith, S.next)

  -- packet i, from its words
  at : (i : ℕ) → i < st.books.ring.len → get_or s.packets i nothing ≡ packet_of (read_e st.ring (slot_of st.books.ring i))
  at i h = ap (λ (l : List Packet). get_or l i nothing) (sym S.packets) ∙ packets-at st.books.ring st.ring i h

  pub stands-sent : (i : ℕ) → i < st.books.sent → Sent c (packet_of (read_e st.ring (slot_of st.books.ring i)))
  stands-sent i h =
      let f = stands_facts in
      let n : st.books.ring.len ≡ length s.packets = sym (packets-length st.books.ring st.ring) ∙ ap length S.packets in
      rw (get_or-take (sent_of s) s.packets i nothing (omega (arith, sent_is)), at i (omega (arith, f.sent))) at
      (all-at (Sent c) (take (sent_of s) s.packets) i (simp length-take (omega (arith, sent_is, n, f.sent))) K.old)

  pub stands-unsent : (i : ℕ) → st.books.sent ≤ i → i < st.books.ring.len → Unsent c (packet_of (read_e st.ring (slot_of st.books.ring i)))
  stands-unsent i h k =
      let f = stands_facts in
      let n : st.books.ring.len ≡ length s.packets = sym (packets-length st.books.ring st.ring) ∙ ap length S.packets in
      let j : sent_of s + (i - sent_of s) ≡ i = omega (arith, sent_is) in
      rw (get_or-drop (sent_of s) s.packets (i - sent_of s) nothing, j, at i k) at
      (all-at (Unsent c) (drop (sent_of s) s.packets) (i - sent_of s) (simp length-drop (omega (arith, sent_is, n))) K.new)

  pub stands-entry : (i : ℕ) → i < st.books.ring.len → Entered c (read_e st.ring (slot_of st.books.ring i))
  unfolding packet_of
  stands-entry i h = go (dec_lt i st.books.sent)
    where
      go : Dec (i < st.books.sent) → Entered c (read_e st.ring (slot_of st.books.ring i))
      go (yes l) =
          let p = stands-sent i l in
          record { time = p.time; message = p.message; len = p.len; most = p.most; resend = p.resend }
      go (no l) =
          let p = stands-unsent i (omega arith) h in
          record { time = p.time; message = p.message; len = p.len; most = omega (arith, p.never); resend = omega (arith, p.unset) }

  pub stands-readable : Readable c st.books.ring st.ring
  stands-readable = let f = stands_facts in record { settings = f.settings; placed = f.placed; entered = stands-entry }

  -- "byte count .. not below the sum of buffered wire sizes"
  pub stands-covers : (k : ℕ) → wire_sizes c (take k (packets_of st.books.ring st.ring)) ≤ st.books.bytes
  stands-covers k = rw (S.packets, S.bytes) (omega (arith, K.covers, sizes_drop c k s.packets))
