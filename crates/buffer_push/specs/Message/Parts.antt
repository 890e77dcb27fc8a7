-- What the parts of a push require, and what they guarantee.
--   Roomable, Appendable              what making room and appending a packet require
--   Appended                          what appending guarantees, whatever the loss list's words are
--   weighable, removable, covered, front-small
--                                     the front packet, in books that represent a sender which keeps the rules
--   room-full, room-none, append-is   the code computes `roomed` and `appended`
use Rattle.std.specs.Prelude.{◌≡◌, List, ℕ, ◌+◌, ◌-◌, ◌*◌, ◌^◌, ◌≤◌, ◌<◌, take}
use Rattle.std.proofs.Common.{◌∙◌, add-one, arith, le-leb}
use Rattle.std.proofs.Math.Nat.{add-zero}
use Rattle.std.proofs.Math.ListN.{length, length-take}
use Rattle.std.proofs.lemmas.Bool.{lt-leb}
use Rattle.ring.specs.declared.Entry.{Entry}
use Rattle.ring.specs.declared.Ring.{Ring}
use Rattle.ring.specs.Entry.{write_e}
use Rattle.ring.specs.Ring.{slot_of, pushed}
use Rattle.ring.specs.Ring.Laws.{Placed}
use Rattle.rules.specs.Settings.{Settings}
use Rattle.rules.specs.Sender.{Sender, wire_sizes}
use Rattle.rules_theorems.specs.Laws.BookRules.{Kept}
use Rattle.rules_theorems.proofs.Packets.{sizes_drop}
use Rattle.buffer.specs.declared.SendBuffer.{SendBuffer}
use Rattle.buffer.specs.State.{State, view, packets_of, put}
use Rattle.buffer.specs.State.Facts.{stands_facts, stands-entry}
use Rattle.buffer.specs.State.Stands.{Stands, Ready}
use Rattle.buffer.specs.State.View.{packets-length, sizes_none, sizes_more}
use Rattle.buffer.specs.Removal.{removed}
use Rattle.buffer.specs.Removal.Laws.{Removable, Removed, Weighable}
use Rattle.buffer_push.specs.declared.Pushed.{Pushed}
use Rattle.buffer_push.specs.Message.{Work, work, gone, make_room, append, roomed, appended}

pub record Roomable (c : Settings) (w : Work) : Type 0 where
  pub ready : Ready c w.state
  pub removed : w.removed ≤ 1_048_576
  pub wire : w.wire ≤ 1_048_576 * 1_584

pub record Appendable (c : Settings) (b : SendBuffer) (made : ℕ) (ring : List ℕ) (e : Entry) : Type 0 where
  pub placed : Placed b.ring ring
  pub room : b.ring.len < b.ring.cap
  pub bytes : b.bytes + (e.len + c.overhead) < 2 ^ 62
  pub overhead : c.overhead ≤ 128
  pub few : made ≤ 1_048_576

pub record Appended (c : Settings) (e : Entry) (p : Pushed) (ring : List ℕ) (r : Pushed) (left : List ℕ) : Type 0 where
  pub is : (lost : List ℕ) → work r left lost ≡ appended c e (work p ring lost)

-- ## Making room

module _ {c : Settings} {st : State} {s : Sender} (S : Stands c st s) (K : Kept c s) where
  module _ (full : st.books.ring.cap ≤ st.books.ring.len) where
    some : 1 ≤ st.books.ring.len
    some = omega (arith, S.placed.slot)

    pub weighable : Weighable c st.books.ring st.ring 1
    weighable =
        let f = stands_facts S K in
        record { placed = S.placed; some = some; overhead = f.settings.overhead; lens = λ i h. omega (arith, (stands-entry S K i h).len, f.settings.size) }

    pub removable : Removable st.books st.lost 1
    removable =
        let p = S.placed in
        record { cap = p.cap; slot = p.slot; len = p.len; some = some; inside = (stands_facts S K).inside }

    pub covered : wire_sizes c (take 1 (view st)) ≤ st.books.bytes
    covered = rw (S.packets, S.bytes) (omega (arith, sizes_drop c 1 s.packets, K.covers))

    pub front-small : wire_sizes c (take 1 (view st)) ≤ 1_584
    front-small =
        let f = stands_facts S K in
        let e = sizes_more st.books.ring st.ring c 0 some in
        let z = sizes_none st.books.ring st.ring c in
        omega (arith, e, z, (stands-entry S K 0 some).len, f.settings.size, f.settings.overhead)

module _ (c : Settings) (p : Pushed) (ring lost : List ℕ) where
  pub room-full : (r : SendBuffer) (wire : ℕ) → p.buffer.ring.slot < p.buffer.ring.cap
      → p.buffer.ring.cap ≤ p.buffer.ring.len
      → wire ≡ wire_sizes c (take 1 (packets_of p.buffer.ring ring))
      → Removed p.buffer lost 1 (p.buffer.bytes - wire) r
      → work (record { buffer = r; made = p.made; removed = p.removed + 1; bytes = p.bytes + wire }) ring lost
      ≡ roomed c (work p ring lost)
  unfolding roomed make_room gone
  room-full r wire some full e R =
      let one : length (take 1 (packets_of p.buffer.ring ring)) ≡ 1 =
      length-take 1 (packets_of p.buffer.ring ring) ∙ omega (arith, packets-length p.buffer.ring ring) in
      rw (le-leb p.buffer.ring.cap p.buffer.ring.len full, one, ← e, ← R.is ring)

  pub room-none : p.buffer.ring.len < p.buffer.ring.cap → work p ring lost ≡ roomed c (work p ring lost)
  unfolding roomed make_room gone wire_sizes
  room-none h = rw (lt-leb p.buffer.ring.cap p.buffer.ring.len h, add-zero p.removed, add-zero p.bytes)

-- ## Appending a packet

pub append-is : (c : Settings) (p : Pushed) (ring left : List ℕ) (e : Entry) (r : Ring) → r ≡ pushed p.buffer.ring
    → left ≡ write_e ring (slot_of p.buffer.ring p.buffer.ring.len) e
    → Appended c e p ring (record {
      buffer = put p.buffer r p.buffer.front.0 p.buffer.sent p.buffer.lost (p.buffer.bytes + (e.len + c.overhead));
      made = p.made + 1;
      removed = p.removed;
      bytes = p.bytes;
    }) left
unfolding appended append
append-is c p ring left e r f g = record { is = λ lost. rw (f, g, add-one p.made) }
