-- A packet of a message on the books is a packet in the rules.
--   entry-is                              its entry represents it
--   stands-room, stands-append, gone-is   making room, and one more packet at the back
--   room-made, pushed_room                there is room afterwards; making room doesn't change how many were pushed
--   slot_is                               the next packet's slot: "the k-th packet ever pushed (from 0) lies at (k mod capacity) ×
--                                         packet size"
--   stands_one, store-one                 both together, and where the payload then lies
use Rattle.std.specs.Prelude.{◌≡◌, Bool, ℕ, ◌+◌, ◌-◌, ◌*◌, ◌%◌, ◌≤◌, ◌<◌, length, take, drop}
use Rattle.std.proofs.Math.Path.{refl, ap}
use Rattle.std.proofs.Common.{◌∙◌, arith, lit≤}
use Rattle.std.proofs.Math.Bool.{true, false}
use mathlib.Core.List.{List, [], ◌∷◌, ◌++◌}
use Rattle.std.proofs.Math.Dec.{leb}
use Rattle.std.proofs.Math.Seq.{paste}
use borrow.Author.Tests.{leb-true, leb-false}
use Rattle.laws.specs.Choice.{cond-by}
use Rattle.rules_packets.specs.declared.Place.{Place}
use Rattle.rules_packets.specs.declared.Place.TheVariants.{First, Middle, Last, Only}
use Rattle.rules_packets.specs.Header.{place_bits}
use Rattle.rules_packets.specs.Split.{count, place_of, start_of, length_of}
use Rattle.ring.specs.declared.Entry.{Entry}
use Rattle.ring.specs.Entry.Laws.{length-write_e}
use Rattle.ring.specs.Ring.{slot_of}
use Rattle.rules.specs.Settings.{Settings, capacity}
use Rattle.rules.specs.Settings.{place_of as placeAt}
use Rattle.rules.specs.Sender.{Packet, Sender, push_of, wire_sizes}
use Rattle.rules.specs.Message as rules
use Rattle.buffer.specs.State.{State, place_from, packet_of, view}
use Rattle.buffer.specs.State.View.{packets-push, places-push}
use Rattle.buffer.specs.State.Stands.{Stands}
use Rattle.buffer.specs.State.Reports.{packets-is}
use Rattle.buffer.specs.State.Slots.{slot-push}
use Rattle.buffer.specs.Removal.{removed}
use Rattle.buffer.specs.Removal.Laws.{stands-removed}
use Rattle.buffer_push.specs.Message.{Pushing, entry_of, gone, make_room, append, roomed, appended, push_one}

place-back : (p : Place) → place_from (place_bits p) ≡ p
place-back First = refl
place-back Middle = refl
place-back Last = refl
place-back Only = refl

place-few : (p : Place) → place_bits p ≤ 3
place-few First = lit≤ tt
place-few Middle = lit≤ tt
place-few Last = lit≤ tt
place-few Only = lit≤ tt

-- the entry of a packet represents the packet
pub entry-is : (c : Settings) (time m len k : ℕ) → packet_of (entry_of c time m len k) ≡ rules.packet_of c time m len k
unfolding packet_of entry_of rules.packet_of
entry-is c time m len k = rw (place-back (place_of (count c.size len) k))

entry_place : (c : Settings) (time m len k : ℕ) → (entry_of c time m len k).place ≤ 3
unfolding entry_of
entry_place c time m len k = place-few (place_of (count c.size len) k)

module _ {c : Settings} {st : State} {s : Sender} (S : Stands c st s) where
  full_is : leb st.books.ring.cap st.books.ring.len ≡ leb (capacity c) (length s.packets)
  full_is = rw (S.cap, packets-is S)

  pub gone-is : gone c st ≡ rules.gone c s
  unfolding gone rules.gone
  gone-is = rw (full_is, S.packets)

  pub stands-room : Stands c (make_room c st) (rules.make_room c s)
  unfolding make_room rules.make_room
  stands-room = go (leb (capacity c) (length s.packets)) refl
    where
      go : (b : Bool) → leb (capacity c) (length s.packets) ≡ b → Stands c (make_room c st) (rules.make_room c s)
      go true e =
          let some : 1 ≤ st.books.ring.len = omega (arith, leb-true (capacity c) (length s.packets) e, packets-is S) in
          let left : st.books.bytes - wire_sizes c (take 1 (view st)) ≡ s.bytes - wire_sizes c (take 1 s.packets) = rw (S.bytes, S.packets) in
          rw (full_is, e, left) (stands-removed S 1 some (s.bytes - wire_sizes c (take 1 s.packets)))
      go false e = rw (full_is, e) S

  -- there is room afterwards
  pub room-made : (make_room c st).books.ring.len < (make_room c st).books.ring.cap
  unfolding make_room removed
  room-made = go (leb st.books.ring.cap st.books.ring.len) refl
    where
      go : (b : Bool) → leb st.books.ring.cap st.books.ring.len ≡ b → (make_room c st).books.ring.len < (make_room c st).books.ring.cap
      go true e = rw e (omega (arith, S.placed.len, S.placed.slot))
      go false e = rw e (leb-false _ _ e)

  pub stands-append : (e : Entry) → st.books.ring.len < st.books.ring.cap → e.place ≤ 3 → Stands c (append c e st) (rules.append c (packet_of e) s)
  unfolding append rules.append packet_of
  stands-append e h few =
      let p = S.placed in
      record {
        placed = record { cap = p.cap; slot = p.slot; len = omega arith; area = rw (length-write_e) p.area };
        cap = S.cap;
        room = S.room;
        packets = packets-push st.books.ring st.ring p e h ∙ ap (λ (l : List Packet). l ++ (packet_of e ∷ [])) S.packets;
        places = places-push st.books.ring st.ring p S.places e h few;
        front = S.front;
        next = S.next;
        count = S.count;
        lost = S.lost;
        bytes = ap (λ (n : ℕ). n + (e.len + c.overhead)) S.bytes;
        others = S.others;
        turns = S.turns;
        pushed = omega (arith, S.pushed);
      }

  pub slot_is : slot_of st.books.ring st.books.ring.len ≡ s.pushed % capacity c
  slot_is =
      let next : push_of s (s.front + st.books.ring.len) ≡ s.pushed = omega (arith, packets-is S) in
      slot-push S st.books.ring.len (omega arith) ∙ ap (λ (k : ℕ). k % capacity c) next

pub pushed_room : (c : Settings) (s : Sender) → (rules.make_room c s).pushed ≡ s.pushed
unfolding rules.make_room
pushed_room c s = cond-by (λ (x : Sender). x.pushed ≡ s.pushed) (leb (capacity c) (length s.packets)) _ s (λ q. refl) (λ q. refl)

module _ (c : Settings) (time m : ℕ) (payload : List ℕ) where
  pub stands_one : (w : Pushing) (s : Sender) → Stands c w.work.state s
      → Stands c (push_one c time m payload w).work.state (rules.append c (rules.packet_of c time m (length payload) w.work.made) (rules.make_room c s))
  unfolding push_one appended roomed
  stands_one w s S =
      rw (← entry-is c time m (length payload) w.work.made)
      (stands-append (stands-room S) (entry_of c time m (length payload) w.work.made) (room-made S) (entry_place c time m (length payload) w.work.made))

  -- the payload lies in the slot of the packet
  pub store-one : (w : Pushing) (s : Sender) → Stands c w.work.state s
      → (push_one c time m payload w).store
      ≡ paste w.store (placeAt c s.pushed) (drop (start_of c.size w.work.made) payload) (length_of c.size (length payload) w.work.made)
  unfolding push_one roomed
  store-one w s S =
      ap (λ (k : ℕ). paste w.store (k * c.size) (drop (start_of c.size w.work.made) payload) (length_of c.size (length payload) w.work.made))
      (slot_is (stands-room S) ∙ ap (λ (k : ℕ). k % capacity c) (pushed_room c s))
