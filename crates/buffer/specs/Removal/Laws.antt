-- Removal on the books is removal in the rules.
--   Removable, Removed, Weighable   what the code requires, and what it guarantees
--   removed-is                      the parts of `remove` make up the whole
--   lost-length, lost-inside        the loss list lies within its area
--   going-is                        how many loss entries go
--   stands-removed                  k packets go, and the byte count becomes what it becomes in the rules
use Rattle.std.specs.Prelude.{◌≡◌, refl, List, ℕ, suc, ◌+◌, ◌-◌, ◌*◌, ◌^◌, ◌≤◌, ◌<◌, min, ltb, length, take, drop}
use Rattle.std.proofs.Math.Path.{sym, ap}
use Rattle.std.proofs.Common.{◌∙◌, arith, length-take, length-take-le, ltb-false}
use Rattle.rules_numbers.specs.declared.SeqNumber.{SeqNumber}
use Rattle.rules_numbers.specs.Modular.{seqs, plus, dist}
use Rattle.laws.specs.Choice.{cond-by}
use Rattle.ring.specs.declared.Ring.{Ring}
use Rattle.ring.specs.Entry.{read_e}
use Rattle.ring.specs.Ring.{slot_of}
use Rattle.ring.specs.Ring as ring
use Rattle.ring.specs.Ring.Laws.{Placed, slot-below}
use Rattle.loss_list.specs.LossList as list
use Rattle.loss_list.specs.LossList.Laws.{staying-few}
use Rattle.loss_list.specs.LossList.Stands as losses
use Rattle.loss_list.specs.LossList.Stands.{wire-plus, stands-length, stands_from, stands-below}
use Rattle.rules.specs.Numbers.{wire}
use Rattle.rules.specs.Settings.{Settings}
use Rattle.rules.specs.Sender.{Sender, from, below, remove}
use Rattle.buffer.specs.declared.SendBuffer.{SendBuffer}
use Rattle.buffer.specs.State.{State, state, lost_of, put}
use Rattle.buffer.specs.State.View.{packets-remove, places-remove}
use Rattle.buffer.specs.State.Stands.{Stands}
use Rattle.buffer.specs.Removal.{removed, front_after, key_after, staying, going}

pub record Removable (b : SendBuffer) (lost : List ℕ) (k : ℕ) : Type 0 where
  pub cap : b.ring.cap ≤ 8_192
  pub slot : b.ring.slot < b.ring.cap
  pub len : b.ring.len ≤ b.ring.cap
  pub some : k ≤ b.ring.len
  pub inside : b.lost ≤ length lost

-- what `remove` guarantees, whatever the ring's words are
pub record Removed (b : SendBuffer) (lost : List ℕ) (k bytes : ℕ) (r : SendBuffer) : Type 0 where
  pub is : (xs : List ℕ) → state r xs lost ≡ removed k bytes (state b xs lost)

pub record Weighable (c : Settings) (r : Ring) (ring : List ℕ) (k : ℕ) : Type 0 where
  pub placed : Placed r ring
  pub some : k ≤ r.len
  pub overhead : c.overhead ≤ 128
  pub lens : (i : ℕ) → i < r.len → (read_e ring (slot_of r i)).len ≤ 1_456

-- ## What the code does

pub removed-is : (b : SendBuffer) (lost : List ℕ) (k bytes : ℕ) (r : Ring) (to : SeqNumber) (sent listed : ℕ) → to.0 ≡ plus seqs b.front.0 k
    → listed ≡ list.staying (dist seqs b.front.0) (dist seqs b.front.0 to.0) b.lost lost
    → r ≡ ring.removed k b.ring
    → sent ≡ b.sent - k
    → Removed b lost k bytes (put b r to.0 sent listed bytes)
unfolding removed
removed-is b lost k bytes r to sent listed e l f g = record { is = λ xs. rw (f, g, l, e) }

-- ## What it represents

-- the front's slot and the number of packets, once k have gone: the number ever pushed is the same
record Round (n pushed slot len : ℕ) : Type 0 where
  pub turns : ℕ
  pub is : pushed ≡ turns * n + (slot + len)

round : (r : Ring) (k turns pushed : ℕ) → k ≤ r.len → pushed ≡ turns * r.cap + (r.slot + r.len) → Round r.cap pushed (slot_of r k) (r.len - k)
unfolding slot_of
round r k turns pushed h e =
    cond-by (λ (x : ℕ). Round r.cap pushed x (r.len - k)) (ltb (r.slot + k) r.cap) (r.slot + k) (r.slot + k - r.cap)
    (λ q. record { turns = turns; is = omega arith })
    (λ q. let big : r.cap ≤ r.slot + k = ltb-false _ _ q in record { turns = suc turns; is = omega arith })

module _ {c : Settings} {st : State} {s : Sender} (S : Stands c st s) where
  pub lost-length : length (lost_of st) ≡ st.books.lost
  lost-length = stands-length S.lost ∙ sym S.count

  pub lost-inside : st.books.lost ≤ length st.lost
  lost-inside = let e : length (lost_of st) ≡ min st.books.lost (length st.lost) = length-take st.books.lost st.lost in omega (arith, lost-length)

  module _ (k : ℕ) (h : k ≤ st.books.ring.len) where
    to : front_after k st ≡ wire (s.front + k)
    to = ap (λ (f : ℕ). plus seqs f k) S.front ∙ wire-plus s.front k

    near : s.front + k < s.front + 2 ^ 31
    near = let p = S.placed in omega (arith, p.cap, p.len)

    stay : losses.Stands (from (s.front + k) s.lost) (s.front + k) (take (staying k st) st.lost)
    stay = rw (to, S.front) (stands_from s.front (s.front + k) (omega arith) near st.books.lost st.lost lost-inside S.lost)

    pub going-is : going k st ≡ below (s.front + k) s.lost
    going-is = rw (to, S.front) (stands-below s.front (s.front + k) (omega arith) near st.books.lost st.lost lost-inside S.lost)

    few : staying k st ≤ length st.lost
    few = omega (arith, lost-inside, staying-few (dist seqs st.books.front.0) (key_after k st) st.lost st.books.lost)

    pub stands-removed : (bytes : ℕ) → Stands c (removed k bytes st) (remove k bytes s)
    unfolding removed
    stands-removed bytes =
        let p = S.placed in
        let r = round st.books.ring k S.turns s.pushed h (rw S.cap S.pushed) in
        record {
          placed = record { cap = p.cap; slot = slot-below st.books.ring p.slot k (omega (arith, p.len)); len = omega (arith, p.len); area = p.area };
          cap = S.cap;
          room = S.room;
          packets = packets-remove st.books.ring st.ring p k h ∙ ap (drop k) S.packets;
          places = places-remove st.books.ring st.ring p S.places k h;
          front = to;
          next = omega (arith, S.next);
          count = sym (length-take-le (staying k st) st.lost few) ∙ stands-length stay;
          lost = stay;
          bytes = refl;
          others = S.others;
          turns = r.turns;
          pushed = rw (← S.cap) r.is;
        }
