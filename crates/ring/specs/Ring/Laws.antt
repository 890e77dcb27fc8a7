-- What the buffer uses of the ring: its packets as a list, after each operation.
--   Placed r xs                    the ring lies within the area
--   placed_facts, facts_placed     the test decides it, both ways
--   slot-below, slot-within        a slot is one of the ring's, and lies within the area
--   slot_apart, slot-removed       two packets lie in two slots; the slots once k packets have gone
--   packets-length, packets-at     how many packets there are, and packet i
--   packets-set                    packet i overwritten
--   packets-push, packets-remove   one more at the back; k fewer at the front
use Rattle.std.specs.Prelude.{◌≡◌, refl, true, ltb, leb, length, get_or, set, drop}
use Rattle.std.proofs.Math.Path.{sym, ap}
use Rattle.std.proofs.Common.{◌∙◌, add-zero, zero-add, arith, length-set, length-drop, length-append, get_or-set_same, get_or-set_other, get_or-drop, ltb-true, ltb-false, leb-true, lt-ltb, le-leb}
use Rattle.std.proofs.Math.Bool.{and-eq-true_iff}
use mathlib.Core.List.{List, [], ◌∷◌, ◌++◌}
use Prim.Native.Nat.{ℕ, zero, suc, ◌+◌, ◌-◌, ◌*◌, ◌≤◌, ◌<◌}
use Rattle.std.proofs.Math.Decide.{ℕ_discrete}
use Rattle.std.proofs.Math.ListN.{get_or-append}
use Rattle.std.proofs.Math.Arith.{lt_of_le-ne}
use Rattle.std.proofs.Math.Seq.{get_or-append_seam, ext_get_or}
use Rattle.laws.specs.Choice.{cond-by}
use Rattle.ring.specs.declared.Entry.{Entry}
use Rattle.ring.specs.declared.Ring.{Ring}
use Rattle.ring.specs.Entry.{entry, read_e, write_e}
use Rattle.ring.specs.Entry.Laws.{read_e-same, read_e-other}
use Rattle.ring.specs.Ring.{wrap_of, slot_of, tab, packets, pushed, removed, placed}

pub record Placed (r : Ring) (xs : List ℕ) : Type 0 where
  pub cap : r.cap ≤ 8_192
  pub slot : r.slot < r.cap
  pub len : r.len ≤ r.cap
  pub area : r.cap * 6 ≤ length xs

pub placed_facts : (r : Ring) (xs : List ℕ) → placed r (length xs) ≡ true → Placed r xs
placed_facts r xs e =
    let cap = (and-eq-true_iff (leb r.cap 8_192) _).0 e in
    let slot = (and-eq-true_iff (ltb r.slot r.cap) _).0 cap.1 in
    let len = (and-eq-true_iff (leb r.len r.cap) _).0 slot.1 in
    record { cap = leb-true _ _ cap.0; slot = ltb-true _ _ slot.0; len = leb-true _ _ len.0; area = leb-true _ _ len.1 }

pub facts_placed : (r : Ring) (xs : List ℕ) → Placed r xs → placed r (length xs) ≡ true
facts_placed r xs p = simp (le-leb _ _ p.cap, lt-ltb _ _ p.slot, le-leb _ _ p.len, le-leb _ _ p.area)

-- a slot by cases: the sum, or the sum less the ring's size
wrap_by : (P : ℕ → Type 0) (n s : ℕ) → (s < n → P s) → (n ≤ s → P (s - n)) → P (wrap_of n s)
wrap_by P n s f g = cond-by P (ltb s n) s (s - n) (λ e. f (ltb-true _ _ e)) (λ e. g (ltb-false _ _ e))

module _ (r : Ring) (h : r.slot < r.cap) where
  pub slot-below : (i : ℕ) → i ≤ r.cap → slot_of r i < r.cap
  unfolding slot_of
  slot-below i q = wrap_by (λ s. s < r.cap) r.cap (r.slot + i) (λ p. p) (λ p. omega arith)

  -- two packets lie in two slots
  pub slot_apart : (i j : ℕ) → i < r.cap → j < r.cap → slot_of r i ≡ slot_of r j → i ≡ j
  unfolding slot_of
  slot_apart i j p q =
      wrap_by (λ s. s ≡ wrap_of r.cap (r.slot + j) → i ≡ j) r.cap (r.slot + i)
      (λ a. wrap_by (λ s. r.slot + i ≡ s → i ≡ j) r.cap (r.slot + j) (λ b e. omega arith) (λ b e. omega arith))
      (λ a. wrap_by (λ s. r.slot + i - r.cap ≡ s → i ≡ j) r.cap (r.slot + j) (λ b e. omega arith) (λ b e. omega arith))

  -- once k packets have gone, packet i is what packet k + i was
  pub slot-removed : (k i : ℕ) → k + i < r.cap → slot_of (removed k r) i ≡ slot_of r (k + i)
  unfolding slot_of
  slot-removed k i q =
      wrap_by (λ s. wrap_of r.cap (s + i) ≡ wrap_of r.cap (r.slot + (k + i))) r.cap (r.slot + k)
      (λ a. ap (wrap_of r.cap) (omega arith))
      (λ a. wrap_by (λ s. s ≡ wrap_of r.cap (r.slot + (k + i))) r.cap (r.slot + k - r.cap + i)
      (λ b. wrap_by (λ s. r.slot + k - r.cap + i ≡ s) r.cap (r.slot + (k + i)) (λ c. omega arith) (λ c. omega arith))
      (λ b. omega arith))

tab-length : {A : Type 0} (k n : ℕ) (f : ℕ → A) → length (tab k n f) ≡ n
tab-length k zero f = refl
tab-length k (suc n) f = ap suc (tab-length (suc k) n f)

tab-at : {A : Type 0} (k n : ℕ) (f : ℕ → A) (i : ℕ) (d : A) → i < n → get_or (tab k n f) i d ≡ f (k + i)
tab-at k zero f i d h = absurd (no h)
  where
    no : i < 0 → ⊥
    no q = omega arith
tab-at k (suc n) f zero d h = ap f (sym (add-zero k))
tab-at k (suc n) f (suc i) d h = tab-at (suc k) n f i d (omega arith) ∙ ap f (omega arith)

pub packets-length : (r : Ring) (xs : List ℕ) → length (packets r xs) ≡ r.len
unfolding packets
packets-length r xs = tab-length 0 r.len (λ i. read_e xs (slot_of r i))

pub packets-at : (r : Ring) (xs : List ℕ) (i : ℕ) (d : Entry) → i < r.len → get_or (packets r xs) i d ≡ read_e xs (slot_of r i)
unfolding packets
packets-at r xs i d h = tab-at 0 r.len (λ j. read_e xs (slot_of r j)) i d h ∙ ap (λ (j : ℕ). read_e xs (slot_of r j)) (zero-add i)

none : Entry
none = entry 0 0 0 0 0 0

module _ (r : Ring) (xs : List ℕ) (p : Placed r xs) where
  -- a slot of the ring lies within the area
  pub slot-within : (i : ℕ) → i ≤ r.cap → slot_of r i * 6 + 6 ≤ length xs
  slot-within i h = let below = slot-below r p.slot i h in let q = p.area in omega arith

  pub packets-set : (i : ℕ) (e : Entry) → i < r.len → packets r (write_e xs (slot_of r i) e) ≡ set (packets r xs) i e
  packets-set i e h =
      ext_get_or none _ _ (packets-length r _ ∙ sym (packets-length r xs) ∙ sym (length-set (packets r xs) i e))
      (λ j q. at j (rw packets-length at q) (ℕ_discrete j i))
    where
      at : (j : ℕ) → j < r.len → Dec (j ≡ i) → get_or (packets r (write_e xs (slot_of r i) e)) j none ≡ get_or (set (packets r xs) i e) j none
      at j q (yes s) =
          let long : i < length (packets r xs) = rw packets-length h in
          packets-at r (write_e xs (slot_of r i) e) j none q
          ∙ ap (λ (k : ℕ). read_e (write_e xs (slot_of r i) e) (slot_of r k)) s
          ∙ read_e-same xs (slot_of r i) e (slot-within i (omega (arith, p.len)))
          ∙ sym (get_or-set_same (packets r xs) i e none long)
          ∙ ap (λ (k : ℕ). get_or (set (packets r xs) i e) k none) (sym s)
      at j q (no n) =
          packets-at r (write_e xs (slot_of r i) e) j none q
          ∙ read_e-other xs (slot_of r i) (slot_of r j) e (λ s. n (slot_apart r p.slot j i (omega (arith, p.len)) (omega (arith, p.len)) s))
          ∙ sym (packets-at r xs j none q)
          ∙ sym (get_or-set_other (packets r xs) i j e none n)

  pub packets-push : (e : Entry) → r.len < r.cap → packets (pushed r) (write_e xs (slot_of r r.len) e) ≡ packets r xs ++ e ∷ []
  unfolding slot_of
  packets-push e h =
      ext_get_or none _ _ (packets-length (pushed r) _ ∙ sym (length-append (packets r xs) (e ∷ []) ∙ ap (λ (n : ℕ). n + 1) (packets-length r xs)))
      (λ j q. at j (rw packets-length at q) (ℕ_discrete j r.len))
    where
      ys : List ℕ
      ys = write_e xs (slot_of r r.len) e

      at : (j : ℕ) → j < r.len + 1 → Dec (j ≡ r.len) → get_or (packets (pushed r) ys) j none ≡ get_or (packets r xs ++ e ∷ []) j none
      at j q (yes s) =
          packets-at (pushed r) ys j none q
          ∙ ap (λ (k : ℕ). read_e ys (slot_of r k)) s
          ∙ read_e-same xs (slot_of r r.len) e (slot-within r.len (omega arith))
          ∙ sym (get_or-append_seam (packets r xs) e [] none)
          ∙ ap (λ (k : ℕ). get_or (packets r xs ++ e ∷ []) k none) (packets-length r xs ∙ sym s)
      at j q (no n) =
          let old : j < r.len = lt_of_le-ne (omega arith) n in
          packets-at (pushed r) ys j none q
          ∙ read_e-other xs (slot_of r r.len) (slot_of r j) e (λ s. n (slot_apart r p.slot j r.len (omega arith) h s))
          ∙ sym (packets-at r xs j none old)
          ∙ sym (get_or-append (packets r xs) (e ∷ []) none j (rw packets-length old))

  pub packets-remove : (k : ℕ) → k ≤ r.len → packets (removed k r) xs ≡ drop k (packets r xs)
  packets-remove k h =
      ext_get_or none _ _ (packets-length (removed k r) xs ∙ sym (simp (length-drop, packets-length)))
      (λ i q. at i (rw packets-length at q))
    where
      at : (i : ℕ) → i < r.len - k → get_or (packets (removed k r) xs) i none ≡ get_or (drop k (packets r xs)) i none
      at i q =
          packets-at (removed k r) xs i none q
          ∙ ap (read_e xs) (slot-removed r p.slot k i (omega (arith, p.len)))
          ∙ sym (packets-at r xs (k + i) none (omega arith))
          ∙ sym (get_or-drop k (packets r xs) i none)
