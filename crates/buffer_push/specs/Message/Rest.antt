-- What a packet of a message requires, and that this holds for one packet after the other.
--   Rest                                        n packets of a message are still to come, the books represent a sender that keeps the book rules,
--                                               and no count can overflow
--   rest-one                                    after one packet, one fewer is to come
--   Next                                        what a packet requires: at least one is to come
--   Ahead, ahead                                once room is made: the slot and the place of the packet, and its wire size in the byte count
--   cuttable, roomable, appendable, pushed-is   the packet can be cut and room made; the parts together are `push_one`
--   size-high, made-few, begins, part_lent      the bounds of the packet's size, index, start and bytes
use Rattle.std.specs.Prelude.{◌≡◌, ℕ, suc, ◌+◌, ◌-◌, ◌*◌, ◌^◌, ◌≤◌, ◌<◌, leb, take, drop}
use Rattle.std.proofs.Math.Path.{refl, ap}
use Rattle.std.proofs.Common.{sym, ◌∙◌, arith, mul-le-mul_right, length-drop, leb-true}
use mathlib.Core.List.{List, []}
use Rattle.std.proofs.Math.ListN.{length, length-take}
use Rattle.std.proofs.Math.Seq.{paste, take-length}
use Rattle.std.proofs.lemmas.List.Edits.{length-paste}
use Rattle.laws.specs.Choice.{cond-by}
use Rattle.rules_packets.specs.Split.{count, piece_of, start_of, length_of}
use Rattle.rules_packets.specs.declared.Piece.{Piece}
use Rattle.rules_packets.specs.Header.{place_bits}
use Rattle.encapsulate.specs.Laws.{Sized, Counted, Cut, count-within, start-within}
use Rattle.ring.specs.declared.Entry.{Entry}
use Rattle.ring.specs.Entry.{entry}
use Rattle.ring.specs.Ring.{slot_of}
use Rattle.ring.specs.Ring.Laws.{Placed, slot-below}
use Rattle.rules.specs.Settings.{Settings, capacity, store_size}
use Rattle.rules.specs.Sender.{Packet, Sender, wire_sizes}
use Rattle.rules_theorems.specs.Laws.BookRules.{Kept}
use Rattle.rules.specs.Message as rules
use Rattle.rules_theorems.proofs.MessageKept.{room-kept, room_fits, append-kept, packets-unsent}
use Rattle.buffer.specs.State.{State, state, view}
use Rattle.buffer.specs.State.Facts.{stands_facts}
use Rattle.buffer.specs.State.Stands.{Stands}
use Rattle.buffer_push.specs.declared.Pushed.{Pushed}
use Rattle.buffer_push.specs.Message.{Work, Pushing, work, pushing, entry_of, gone, make_room, roomed, appended, next_place, push_one}
use Rattle.buffer_push.specs.Message.OnePacket.{stands-room, room-made, stands_one}
use Rattle.buffer_push.specs.Message.Parts.{Roomable, Appendable, Appended, front-small}

pub record Rest (c : Settings) (time m : ℕ) (payload : List ℕ) (n : ℕ) (w : Pushing) : Type 0 where
  pub sender : Sender
  pub stands : Stands c w.work.state sender
  pub kept : Kept c sender
  pub early : time < 2 ^ 48
  pub few : m < 2 ^ 26
  pub short : length payload ≤ 1_048_576
  pub all : w.work.made + n ≡ count c.size (length payload)
  pub bytes : sender.bytes + wire_sizes c (rules.packets_from c time m (length payload) w.work.made n) < 2 ^ 62
  pub removed : w.work.removed ≤ w.work.made
  pub wire : w.work.wire ≤ w.work.made * 1_584
  pub store : store_size c ≤ length w.store

pub record Next (c : Settings) (time m : ℕ) (payload : List ℕ) (n : ℕ) (w : Pushing) : Type 0 where
  pub left : ℕ
  pub rest : Rest c time m payload (suc left) w
  pub count : n ≡ count c.size (length payload)

-- once room is made for the next packet
pub record Ahead (c : Settings) (payload : List ℕ) (w : Pushing) (v : Work) : Type 0 where
  pub placed : Placed v.state.books.ring v.state.ring
  pub room : v.state.books.ring.len < v.state.books.ring.cap
  pub made : v.made ≡ w.work.made
  pub place : next_place c v.state + c.size ≤ length w.store
  pub bytes : v.state.books.bytes + (length_of c.size (length payload) w.work.made + c.overhead) < 2 ^ 62

-- ## At most one packet goes

module _ {c : Settings} {st : State} {s : Sender} (S : Stands c st s) (K : Kept c s) where
  gone-few : length (gone c st) ≤ 1
  unfolding gone
  gone-few =
      cond-by (λ (l : List Packet). length l ≤ 1) (leb st.books.ring.cap st.books.ring.len) (take 1 (view st)) []
      (λ e. simp length-take (omega arith)) (λ e. omega arith)

  gone-small : wire_sizes c (gone c st) ≤ 1_584
  unfolding gone wire_sizes
  gone-small =
      cond-by (λ (l : List Packet). wire_sizes c l ≤ 1_584) (leb st.books.ring.cap st.books.ring.len) (take 1 (view st)) []
      (λ e. front-small S K (leb-true _ _ e)) (λ e. omega arith)

-- the lent payload from k on
to_the_end : (k : ℕ) (xs : List ℕ) → take (length xs - k) (drop k xs) ≡ drop k xs
to_the_end k xs = ap (λ (n : ℕ). take n (drop k xs)) (sym (length-drop k xs)) ∙ take-length (drop k xs)

-- ## A packet of a message

module _ {c : Settings} {time m : ℕ} {payload : List ℕ} {n : ℕ} {w : Pushing} (R : Rest c time m payload (suc n) w) where
  abbrev i : ℕ
  i = w.work.made

  abbrev s : Sender
  s = R.sender

  sized : Sized c.size (length payload)
  sized = let f = stands_facts R.stands R.kept in record { low = f.settings.least; high = f.settings.size; short = R.short }

  pub size-high : c.size ≤ 1_456
  size-high = sized.high

  counted : Counted c.size (length payload) (count c.size (length payload))
  unfolding count
  counted = count-within c.size (length payload) (count c.size (length payload)) sized refl

  pub made-few : i < 1_048_576
  made-few = omega (arith, counted.high, R.all)

  pub cuttable : Cut c.size (length payload) (count c.size (length payload)) i
  cuttable = record { sized = sized; is = refl; within = omega (arith, R.all); few = counted.high }

  pub begins : start_of c.size i ≤ length payload
  begins = start-within c.size (length payload) i sized.low (omega (arith, R.all))

  part-long : length_of c.size (length payload) i ≤ length (drop (start_of c.size i) payload)
  part-long = simp length-drop (omega (arith, begins))

  pub part_lent : (piece : Piece) → piece ≡ piece_of c.size (length payload) i
      → piece.len ≤ length (take (length payload - piece.start) (drop piece.start payload))
  part_lent piece e = rw (to_the_end piece.start payload, e) part-long

  pub roomable : Roomable c w.work
  roomable = record {
    ready = record { sender = s; stands = R.stands; kept = R.kept };
    removed = omega (arith, R.removed, made-few);
    wire = omega (arith, R.wire, made-few);
  }

  -- the packet's own wire size, and the others'
  size-one : wire_sizes c (rules.packets_from c time m (length payload) i (suc n))
      ≡ length_of c.size (length payload) i + c.overhead + wire_sizes c (rules.packets_from c time m (length payload) (suc i) n)
  unfolding rules.packets_from rules.packet_of wire_sizes
  size-one = refl

  place_in : next_place c (make_room c w.work.state) + c.size ≤ length w.store
  place_in =
      let S = stands-room R.stands in
      let r = (make_room c w.work.state).books.ring in
      let below : slot_of r r.len + 1 ≤ capacity c = omega (arith, slot-below r S.placed.slot r.len S.placed.len, S.cap) in
      let wide = mul-le-mul_right c.size below in
      omega (arith, wide, R.store)

  ahead-room : Ahead c payload w (roomed c w.work)
  unfolding roomed
  ahead-room =
      let S = stands-room R.stands in
      record {
        placed = S.placed;
        room = room-made R.stands;
        made = refl;
        place = place_in;
        bytes = omega (arith, S.bytes, (room-kept c s R.kept).1, R.bytes, size-one);
      }

  pub ahead : (v : Work) → v ≡ roomed c w.work → Ahead c payload w v
  ahead v e = rw e ahead-room

  pub appendable : (q : Pushed) (ring lost : List ℕ) (piece : Piece) (e : Entry) → work q ring lost ≡ roomed c w.work
      → piece ≡ piece_of c.size (length payload) i
      → e ≡ entry time m (place_bits piece.place) piece.len 0 0
      → Appendable c q.buffer q.made ring e
  appendable q ring lost piece e roomy cut entered =
      let a = ahead (work q ring lost) roomy in
      let long : e.len ≡ length_of c.size (length payload) i = rw (entered, cut) in
      record {
        placed = a.placed;
        room = a.room;
        bytes = omega (arith, a.bytes, long);
        overhead = (stands_facts R.stands R.kept).settings.overhead;
        few = omega (arith, a.made, made-few);
      }

  pub rest-one : Rest c time m payload n (push_one c time m payload w)
  unfolding push_one appended roomed rules.append rules.packet_of rules.packets_from
  rest-one =
      let p = rules.packet_of c time m (length payload) i in
      let room = room-kept c s R.kept in
      record {
        sender = rules.append c p (rules.make_room c s);
        stands = stands_one c time m payload w s R.stands;
        kept =
            append-kept c p (rules.make_room c s) (packets-unsent c time m (length payload) R.early R.few i 1).0 (room_fits c s R.kept)
            (omega (arith, room.1, R.bytes, size-one)) room.0;
        early = R.early;
        few = R.few;
        short = R.short;
        all = omega (arith, R.all);
        bytes = omega (arith, room.1, R.bytes, size-one);
        removed = omega (arith, R.removed, gone-few R.stands R.kept);
        wire = omega (arith, R.wire, gone-small R.stands R.kept);
        store =
            rw (length-paste w.store (next_place c (make_room c w.work.state)) (drop (start_of c.size i) payload) (length_of c.size (length payload) i)
            (omega (arith, place_in)) part-long) R.store;
      }

-- the parts together
module _ (c : Settings) (time m : ℕ) (payload : List ℕ) (w : Pushing) where
  abbrev laid : ℕ → List ℕ
  laid at = paste w.store at (drop (start_of c.size w.work.made) payload) (length_of c.size (length payload) w.work.made)

  pub pushed-is : (q r : Pushed) (ring lost left store : List ℕ) (piece : Piece) (e : Entry) (at : ℕ)
      → piece ≡ piece_of c.size (length payload) w.work.made
      → work q ring lost ≡ roomed c w.work
      → at ≡ slot_of q.buffer.ring q.buffer.ring.len * c.size
      → store ≡ paste w.store at (take (length payload - piece.start) (drop piece.start payload)) piece.len
      → e ≡ entry time m (place_bits piece.place) piece.len 0 0
      → Appended c e q ring r left
      → pushing (work r left lost) store ≡ push_one c time m payload w
  unfolding push_one entry_of
  pushed-is q r ring lost left store piece e at cut roomy lies copied entered A =
      let entry-of : e ≡ entry_of c time m (length payload) w.work.made = entered ∙ rw cut in
      let copy : store ≡ laid (next_place c (state q.buffer ring lost)) = copied ∙ rw (to_the_end piece.start payload, cut, lies) in
      λ j. pushing ((A.is lost ∙ (λ k. appended c (entry-of k) (roomy k))) j)
      ((copy ∙ ap (λ (v : Work). laid (next_place c v.state)) roomy) j)
