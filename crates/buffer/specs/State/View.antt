-- The buffered packets as a list, after each operation on the ring.
--   packets-length, packets-at                  how many there are, and packet i
--   sizes_none, sizes_more                      the wire sizes, packet by packet
--   packets-set, packets-push, packets-remove   packet i overwritten; one more at the back; k fewer at the front
--   Places r xs                                 each entry's place has two bits
--   places-set, places-push, places-remove      these three operations keep it so
use Rattle.std.specs.Prelude.{◌≡◌, List, [], ◌∷◌, ◌++◌, map, ℕ, zero, suc, ◌+◌, ◌≤◌, ◌<◌, get_or, set, take, drop}
use Rattle.std.proofs.Math.Path.{refl, sym, ap}
use Rattle.std.proofs.Common.{◌∙◌, add-one, arith}
use Rattle.std.proofs.Math.Decide.{ℕ_discrete}
use Rattle.std.proofs.Math.Arith.{lt_of_le-ne}
use Rattle.std.proofs.Math.Seq.{take-suc}
use Rattle.std.proofs.Math.ListN.{length, length-map, get_or-map}
use Rattle.laws.specs.Lists.{map-append, map-drop, map-set}
use Rattle.ring.specs.declared.Entry.{Entry}
use Rattle.ring.specs.declared.Ring.{Ring}
use Rattle.ring.specs.Entry.{entry, read_e, write_e}
use Rattle.ring.specs.Entry.Laws.{read_e-same, read_e-other}
use Rattle.ring.specs.Ring.{slot_of, pushed, removed}
use Rattle.ring.specs.Ring as ring
use Rattle.ring.specs.Ring.Laws as laws
use Rattle.ring.specs.Ring.Laws.{Placed}
use Rattle.rules.specs.Settings.{Settings}
use Rattle.rules.specs.Sender.{Packet, nothing, wire_sizes}
use Rattle.rules_theorems.proofs.Packets.{sizes_append}
use Rattle.buffer.specs.State.{packet_of, packets_of}

module _ (r : Ring) (xs : List ℕ) where
  pub packets-length : length (packets_of r xs) ≡ r.len
  unfolding packets_of
  packets-length = length-map (ring.packets r xs) packet_of ∙ laws.packets-length r xs

  pub packets-at : (i : ℕ) → i < r.len → get_or (packets_of r xs) i nothing ≡ packet_of (read_e xs (slot_of r i))
  unfolding packets_of packet_of nothing
  packets-at i h = get_or-map packet_of (ring.packets r xs) i (entry 0 0 3 0 0 0) ∙ ap packet_of (laws.packets-at r xs i (entry 0 0 3 0 0 0) h)

  pub sizes_none : (c : Settings) → 0 ≡ wire_sizes c (take 0 (packets_of r xs))
  unfolding wire_sizes
  sizes_none c = refl

  pub sizes_more : (c : Settings) (i : ℕ) → i < r.len
      → wire_sizes c (take (i + 1) (packets_of r xs)) ≡ wire_sizes c (take i (packets_of r xs)) + ((read_e xs (slot_of r i)).len + c.overhead)
  unfolding wire_sizes packet_of
  sizes_more c i h =
      let long : i < length (packets_of r xs) = rw packets-length h in
      rw (add-one i, take-suc (packets_of r xs) i nothing long, packets-at i h)
      (sizes_append c (take i (packets_of r xs)) (packet_of (read_e xs (slot_of r i)) ∷ []) ∙ omega arith)

  module _ (p : Placed r xs) where
    pub packets-set : (i : ℕ) (e : Entry) → i < r.len → packets_of r (write_e xs (slot_of r i) e) ≡ set (packets_of r xs) i (packet_of e)
    unfolding packets_of
    packets-set i e h = ap (map packet_of) (laws.packets-set r xs p i e h) ∙ sym (map-set packet_of (ring.packets r xs) i e)

    pub packets-push : (e : Entry) → r.len < r.cap → packets_of (pushed r) (write_e xs (slot_of r r.len) e) ≡ packets_of r xs ++ (packet_of e ∷ [])
    unfolding packets_of
    packets-push e h = ap (map packet_of) (laws.packets-push r xs p e h) ∙ map-append packet_of (ring.packets r xs) (e ∷ [])

    pub packets-remove : (k : ℕ) → k ≤ r.len → packets_of (removed k r) xs ≡ drop k (packets_of r xs)
    unfolding packets_of
    packets-remove k h = ap (map packet_of) (laws.packets-remove r xs p k h) ∙ sym (map-drop packet_of k (ring.packets r xs))

abbrev pub Places : Ring → List ℕ → Type 0
Places r xs = (i : ℕ) → i < r.len → (read_e xs (slot_of r i)).place ≤ 3

module _ (r : Ring) (xs : List ℕ) (p : Placed r xs) (P : Places r xs) where
  pub places-set : (i : ℕ) (e : Entry) → i < r.len → e.place ≤ 3 → Places r (write_e xs (slot_of r i) e)
  places-set i e h few j q = go (ℕ_discrete j i)
    where
      go : Dec (j ≡ i) → (read_e (write_e xs (slot_of r i) e) (slot_of r j)).place ≤ 3
      go (yes s) = rw (s, read_e-same xs (slot_of r i) e (laws.slot-within r xs p i (omega (arith, p.len)))) few
      go (no n) =
          rw (read_e-other xs (slot_of r i) (slot_of r j) e (λ s. n (laws.slot_apart r p.slot j i (omega (arith, p.len)) (omega (arith, p.len)) s)))
          (P j q)

  pub places-push : (e : Entry) → r.len < r.cap → e.place ≤ 3 → Places (pushed r) (write_e xs (slot_of r r.len) e)
  unfolding slot_of
  places-push e h few j q = go (ℕ_discrete j r.len)
    where
      go : Dec (j ≡ r.len) → (read_e (write_e xs (slot_of r r.len) e) (slot_of r j)).place ≤ 3
      go (yes s) = rw (s, read_e-same xs (slot_of r r.len) e (laws.slot-within r xs p r.len (omega arith))) few
      go (no n) =
          let old : j < r.len = lt_of_le-ne (omega arith) n in
          rw (read_e-other xs (slot_of r r.len) (slot_of r j) e (λ s. n (laws.slot_apart r p.slot j r.len (omega arith) h s))) (P j old)

  pub places-remove : (k : ℕ) → k ≤ r.len → Places (removed k r) xs
  places-remove k h j q = rw (laws.slot-removed r p.slot k j (omega (arith, p.len))) (P (k + j) (omega arith))
