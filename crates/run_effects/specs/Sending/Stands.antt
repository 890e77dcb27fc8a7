-- What each rule does to books that represent a sender is what it does to the sender in the rules.
--   TurnStands c t u                              what the turn t leaves represents what u leaves, and both have the same records
--   few, number_is, packet-is, record_is          packets and their numbers
--   dropped_refines, stands-sent, stands-popped   rule 1; a sending; the number nearest the front leaves the loss list
--   shorter                                       the sender with that number off the list
--   nearest-below                                 the number on the loss list nearest the front is a sent one
--   loss_refines, due_refines, window_refines, next_refines, unsent_refines, flush_refines, input_refines
--                      rules 2 to 7
use Rattle.std.specs.Prelude.{◌≡◌, Bool, true, false, ◌&&◌, cond, eqb, take}
use Rattle.std.proofs.Math.Path.{refl, sym, ap, subst}
use Rattle.std.proofs.Common.{◌∙◌, mod-eq_of_lt, ltb-true}
use mathlib.Core.List.{List, [], ◌∷◌, ◌++◌, append-nil}
use Prim.Native.Nat.{ℕ, suc, ◌+◌, ◌-◌, ◌*◌, ◌%◌, ◌^◌, ◌≤◌, ◌<◌}
use Rattle.std.proofs.Math.Nat.{mod-add-mod, add-mul-mod_self_left}
use native.Mathlib.Omega.{arith}
use Rattle.std.proofs.Math.Dec.{ltb}
use Rattle.std.proofs.Math.ListN.{length, get_or, set}
use Rattle.laws.specs.Ascending.{Ascends}
use Rattle.laws.specs.Bools.{and_r}
use Rattle.rules_numbers.specs.Modular.{seqs, plus, dist}
use Rattle.rules_numbers.specs.declared.Rtt.{Rtt}
use Rattle.ring.specs.declared.Entry.{Entry}
use Rattle.ring.specs.Entry.{read_e}
use Rattle.ring.specs.Entry.Laws.{length-write_e}
use Rattle.ring.specs.Ring.{slot_of}
use Rattle.loss_list.specs.LossList.Stands as losses
use Rattle.loss_list.specs.LossList.Stands.{key_wire, wire-plus, stands-first, stands_pop}
use Rattle.rules.specs.Numbers.{wire}
use Rattle.rules_theorems.specs.Laws.Numbers.{wire-below}
use Rattle.rules.specs.Settings.{Settings, capacity}
use Rattle.rules.specs.Sender as rules
use Rattle.rules.specs.Sender.{Packet, Sender, nothing, end, sent_of, packet, push_of, remove, wire_sizes}
use Rattle.rules_theorems.specs.Laws.BookRules.{Kept}
use Rattle.rules.specs.Records.{Kind, Send, ByTime, ByLoss, Action, send_record, drop_record}
use Rattle.rules.specs.Run as Rules
use Rattle.rules.specs.Run.{Turn}
use Rattle.buffer.specs.State.{State, packet_of, packets_of, view, lost_of}
use Rattle.buffer.specs.State.Stands.{Stands}
use Rattle.buffer.specs.State.View.{packets-length, packets-at, packets-set, places-set}
use Rattle.buffer.specs.State.Facts.{Facts, stands_facts}
use Rattle.buffer.specs.State.Reports.{ltb-add}
use Rattle.buffer.specs.Removal.{removed}
use Rattle.buffer.specs.Removal.Laws.{stands-removed, lost-inside}
use Rattle.run_effects.specs.Sending.{Turned, stamped, packet_at, number_at, sent_words, dropped, sent_as, nearest, popped, loss_turn, due_turn, window_turn, next_turn, is_sixteenth, idle, sixteen_turn, unsent_turn, flush_turn, input_turn}

pub record TurnStands (c : Settings) (t : Turned) (u : Turn) : Type 0 where
  pub state : Stands c t.state u.after
  pub records : t.records ≡ u.records
  pub ends : t.ends ≡ u.ends

-- ## Numbers and packets

wire-wire : (a i : ℕ) → wire (wire a + i) ≡ wire (a + i)
wire-wire a i = mod-add-mod a (2 ^ 31) i

wire_twice : (a : ℕ) → wire (wire a) ≡ wire a
wire_twice a = mod-eq_of_lt (wire-below a)

stamped-is : (now : ℕ) (r : Rtt) (s : Sender) (e : Entry) → r ≡ s.rtt → packet_of (stamped now r e) ≡ Rules.stamped now s (packet_of e)
unfolding packet_of stamped Rules.stamped Rules.base
stamped-is now r s e h = rw h

module _ {c : Settings} {st : State} {s : Sender} (S : Stands c st s) where
  pub few : st.books.ring.len ≡ length s.packets
  few = sym (packets-length st.books.ring st.ring) ∙ ap length S.packets

  pub number_is : (i : ℕ) → wire (number_at st i) ≡ wire (s.front + i)
  number_is i = rw S.front (wire-wire s.front i)

  front-is : wire st.books.front.0 ≡ wire s.front
  front-is = rw S.front (wire_twice s.front)

  packet-is : (i : ℕ) → packet_at st i ≡ packet s (s.front + i)
  unfolding packet
  packet-is i = let e : s.front + i - s.front ≡ i = omega arith in rw (S.packets, e)

  record_is : (k : Kind) (i : ℕ) → send_record k (number_at st i) (packet_at st i) ≡ send_record k (s.front + i) (packet s (s.front + i))
  unfolding send_record
  record_is k i = rw (number_is i, packet-is i)

  -- ## Rule 1

  pub dropped_refines : (now k : ℕ) → suc k ≤ length s.packets → TurnStands c (dropped (suc k) st) (Rules.dropped c now (suc k) s)
  unfolding dropped Rules.dropped drop_record
  dropped_refines now k h = record {
    state =
        subst (λ (b : ℕ). Stands c (removed (suc k) st.books.bytes st) (remove (suc k) b s)) S.bytes
        (stands-removed S (suc k) (rw few h) st.books.bytes);
    records = rw (number_is (suc k), front-is);
    ends = refl;
  }

  -- ## A sending

  module _ (i : ℕ) (h : i < st.books.ring.len) where
    sent-packets : (now : ℕ) → packets_of st.books.ring (sent_words now i st.books st.ring) ≡ Rules.sent now s (s.front + i)
    unfolding Rules.sent packet
    sent-packets now =
        let e : s.front + i - s.front ≡ i = omega arith in
        let x : Entry = read_e st.ring (slot_of st.books.ring i) in
        let p : packet_of x ≡ get_or s.packets i nothing = sym (packets-at st.books.ring st.ring i h) ∙ ap (λ (l : List Packet). get_or l i nothing) S.packets in
        packets-set st.books.ring st.ring S.placed i (stamped now st.books.rtt x) h
        ∙ ap (λ (l : List Packet). set l i (packet_of (stamped now st.books.rtt x))) S.packets
        ∙ ap (set s.packets i) (stamped-is now st.books.rtt s x S.others.rtt ∙ ap (Rules.stamped now s) p)
        ∙ rw e

    pub stands-sent : (k : Kind) (now n : ℕ) (draining : Bool)
        → TurnStands c (sent_as k now i n st) (Rules.send c now draining k (s.front + i) (s.front + n) s.lost s)
    unfolding sent_as stamped Rules.send
    stands-sent k now n draining =
        let p = S.placed in
        record {
          state = record {
            placed = record { cap = p.cap; slot = p.slot; len = p.len; area = rw length-write_e p.area };
            cap = S.cap;
            room = S.room;
            packets = sent-packets now;
            places = places-set st.books.ring st.ring p S.places i (stamped now st.books.rtt (read_e st.ring (slot_of st.books.ring i))) h (S.places i h);
            front = S.front;
            next = refl;
            count = S.count;
            lost = S.lost;
            bytes = S.bytes;
            others = S.others;
            turns = S.turns;
            pushed = S.pushed;
          };
          records = ap (λ (a : Action). a ∷ []) (record_is k i);
          ends = refl;
        }

  -- ## The number nearest the front leaves the loss list

  module _ (x : ℕ) (xs : List ℕ) (e : s.lost ≡ x ∷ xs) where
    abbrev pub shorter : Sender
    shorter = rules.put s s.packets s.front s.next xs s.bytes

    whole : losses.Stands (x ∷ xs) s.front (lost_of st)
    whole = subst (λ (l : List ℕ). losses.Stands l s.front (lost_of st)) e S.lost

    stands-popped : Stands c (popped st) shorter
    unfolding popped
    stands-popped = record {
      placed = S.placed;
      cap = S.cap;
      room = S.room;
      packets = S.packets;
      places = S.places;
      front = S.front;
      next = S.next;
      count = let n : st.books.lost ≡ suc (length xs) = S.count ∙ ap length e in omega (arith, n);
      lost = stands_pop st.books.lost st.lost (lost-inside S) whole;
      bytes = S.bytes;
      others = S.others;
      turns = S.turns;
      pushed = S.pushed;
    }

-- ## Rules 2 to 7

module _ {c : Settings} {st : State} {s : Sender} (S : Stands c st s) (K : Kept c s) (now : ℕ) (draining : Bool) where
  f : Facts c st
  f = stands_facts S K

  module _ (x : ℕ) (xs : List ℕ) (e : s.lost ≡ x ∷ xs) where
    inside : (s.front ≤ x) × (x < s.next)
    inside = let a : Ascends s.front s.next (x ∷ xs) = rw e at K.good.lost in (a.0, a.1)

    place_is : dist seqs st.books.front.0 (nearest st) ≡ x - s.front
    place_is =
        rw (S.front, (stands-first st.books.lost st.lost (lost-inside S) (whole S x xs e)).1)
        (key_wire s.front x inside.0 (omega (arith, inside.1, S.next, f.sent, f.placed.len, f.placed.cap)))

    pub loss_refines : TurnStands c (loss_turn now st) (Rules.send c now draining ByLoss x s.next xs s)
    unfolding loss_turn popped Rules.send Rules.sent packet Rules.stamped Rules.base
    loss_refines =
        let at : s.front + (x - s.front) ≡ x = omega (arith, inside.0) in
        let t = stands-sent (stands-popped S x xs e) (x - s.front) (omega (arith, inside.0, inside.1, S.next, f.sent)) ByLoss now st.books.sent draining in
        rw (place_is, S.next) (rw at at t)

  -- "the earliest resend time strictly before now": the number is the front plus the index
  pub due_refines : (i : ℕ) → i < st.books.sent → TurnStands c (due_turn now i st) (Rules.send c now draining ByTime (s.front + i) s.next s.lost s)
  due_refines i h =
      subst (λ (n : ℕ). TurnStands c (due_turn now i st) (Rules.send c now draining ByTime (s.front + i) n s.lost s)) (sym S.next)
      (stands-sent S i (omega (arith, f.sent)) ByTime now st.books.sent draining)

  pub window_refines : TurnStands c (window_turn st) (Rules.obey c now draining Rules.window s)
  unfolding window_turn Rules.obey
  window_refines = let n : st.books.sent ≡ sent_of s = omega (arith, S.next) in record { state = S; records = rw n; ends = refl }

  pub input_refines : TurnStands c (input_turn st) (Rules.obey c now draining Rules.input s)
  unfolding input_turn Rules.obey
  input_refines = record { state = S; records = refl; ends = refl }

  pub next_refines : st.books.sent < st.books.ring.len → TurnStands c (next_turn now st) (Rules.send_next c now draining s)
  next_refines h =
      let n : s.front + (st.books.sent + 1) ≡ suc s.next = omega (arith, S.next) in
      subst (λ (m : ℕ). TurnStands c (next_turn now st) (Rules.send c now draining Send s.next m s.lost s)) n
      (subst (λ (k : ℕ). TurnStands c (next_turn now st) (Rules.send c now draining Send k (s.front + (st.books.sent + 1)) s.lost s)) (sym S.next)
      (stands-sent S st.books.sent h Send now (st.books.sent + 1) draining))

  slot_is : st.books.ring.slot ≡ push_of s s.front % capacity c
  slot_is =
      let n : push_of s s.front ≡ st.books.ring.slot + capacity c * S.turns = omega (arith, S.pushed, few S) in
      rw n (sym (add-mul-mod_self_left st.books.ring.slot (capacity c) S.turns ∙ mod-eq_of_lt (rw (← S.cap) f.placed.slot)))

  pub flush_refines : 1 ≤ st.books.ring.len → TurnStands c (flush_turn c st) (Rules.obey c now draining Rules.flush s)
  unfolding flush_turn Rules.obey Rules.flushed
  flush_refines h =
      let bytes : st.books.bytes - wire_sizes c (take 1 (view st)) ≡ s.bytes - wire_sizes c (take 1 s.packets) = rw (S.bytes, S.packets) in
      let R = stands-removed S 1 h (st.books.bytes - wire_sizes c (take 1 (view st))) in
      let zero-on : s.front + 0 ≡ s.front = omega arith in
      let p : packet_at st 0 ≡ packet s s.front = rw zero-on at (packet-is S 0) in
      record {
        state = record {
          placed = R.placed;
          cap = R.cap;
          room = R.room;
          packets = R.packets;
          places = R.places;
          front = R.front;
          next = R.next;
          count = R.count;
          lost = R.lost;
          bytes = R.bytes ∙ bytes;
          others = record {
            rtt = R.others.rtt;
            message = R.others.message;
            expected = R.others.expected;
            held = (S.front, slot_is, ap (λ (q : Packet). q.len) p);
          };
          turns = R.turns;
          pushed = R.pushed;
        };
        records = rw zero-on at (ap (λ (a : Action). a ∷ []) (record_is S Send 0));
        ends = refl;
      }

  -- "If the one after it has a number divisible by 16 and is buffered"
  sixteenth_is : is_sixteenth st ≡ (eqb (wire s.next % 16) 0 && ltb s.next (end s))
  sixteenth_is =
      let n : plus seqs st.books.front.0 st.books.sent ≡ wire s.next =
      ap (λ (a : ℕ). plus seqs a st.books.sent) S.front ∙ wire-plus s.front st.books.sent ∙ ap wire (sym S.next) in
      let more : ltb st.books.sent st.books.ring.len ≡ ltb s.next (end s) =
      rw (few S, S.next) (sym (ltb-add s.front st.books.sent (length s.packets))) in
      rw (n, more)

module _ {c : Settings} (now : ℕ) (draining : Bool) where
  pub unsent_refines : (st : State) {u : Turn} → TurnStands c (next_turn now st) u → Kept c u.after → u.ends ≡ false
      → TurnStands c (unsent_turn now st) (Rules.extra c now draining u)
  unfolding unsent_turn sixteen_turn Rules.extra
  unsent_refines st {u} T K n =
      rw (sixteenth_is T.state K now draining) (go (eqb (wire u.after.next % 16) 0 && ltb u.after.next (end u.after)) refl)
    where
      t : State
      t = (next_turn now st).state

      both : Turn
      both = record {
        records = u.records ++ (Rules.send_next c now draining u.after).records;
        after = (Rules.send_next c now draining u.after).after;
        ends = false;
      }

      go : (b : Bool) → (eqb (wire u.after.next % 16) 0 && ltb u.after.next (end u.after)) ≡ b
          → TurnStands c
          (record {
            state = (cond b (next_turn now t) (idle t)).state;
            records = (next_turn now st).records ++ (cond b (next_turn now t) (idle t)).records;
            ends = false;
          })
          (cond b both u)
      go true e =
          let more : u.after.next < end u.after = ltb-true _ _ (and_r (eqb (wire u.after.next % 16) 0) (ltb u.after.next (end u.after)) e) in
          let N = next_refines T.state K now draining (omega (arith, more, few T.state, T.state.next)) in
          record { state = N.state; records = rw (T.records, N.records); ends = refl }
      go false e = record { state = T.state; records = append-nil (next_turn now st).records ∙ T.records; ends = sym n }

-- the number on the loss list nearest the front is a sent one
pub nearest-below : {c : Settings} {st : State} {s : Sender} → Stands c st s → Kept c s → 0 < st.books.lost
    → dist seqs st.books.front.0 (nearest st) < st.books.sent
nearest-below {c} {st} {s} S K h = go s.lost refl
  where
    go : (l : List ℕ) → s.lost ≡ l → dist seqs st.books.front.0 (nearest st) < st.books.sent
    go [] e = absurd (omega (arith, h, S.count, ap length e))
    go (x ∷ xs) e =
        let i = inside S K 0 false x xs e in
        rw (place_is S K 0 false x xs e) (omega (arith, i.0, i.1, S.next))
