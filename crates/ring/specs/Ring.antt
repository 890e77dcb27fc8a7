-- The ring: which slot holds which packet. Document 01: "VecDeque .. become[s] a ring .. over lent numbers."
--   wrap_of n s             the slot s of n, which may have wrapped once
--   slot_of r i             the slot of packet i from the front
--   tab k n f               the n values f k, f (k + 1) and so on
--   packets r xs            the packets from the front
--   pushed r, removed k r   one more at the back; k fewer at the front
--   placed r n              the ring fits in n words, and has a capacity of 1 to 8,192
pub mod Laws
use Rattle.std.specs.Prelude.{Bool, cond, ◌&&◌, List, [], ◌∷◌, ℕ, zero, suc, ◌+◌, ◌-◌, ◌*◌, ltb, leb}
use Rattle.ring.specs.declared.Entry.{Entry}
use Rattle.ring.specs.declared.Ring.{Ring}
use Rattle.ring.specs.Entry.{read_e}

abbrev pub wrap_of : ℕ → ℕ → ℕ
wrap_of n s = cond (ltb s n) s (s - n)

unfoldable pub slot_of : Ring → ℕ → ℕ
slot_of r i = wrap_of r.cap (r.slot + i)

abbrev pub tab : {A : Type 0} → ℕ → ℕ → (ℕ → A) → List A
tab k zero f = []
tab k (suc n) f = f k ∷ tab (suc k) n f

unfoldable pub packets : Ring → List ℕ → List Entry
packets r xs = tab 0 r.len (λ i. read_e xs (slot_of r i))

abbrev pub pushed : Ring → Ring
pushed r = record { cap = r.cap; slot = r.slot; len = r.len + 1 }

abbrev pub removed : ℕ → Ring → Ring
removed k r = record { cap = r.cap; slot = slot_of r k; len = r.len - k }

abbrev pub placed : Ring → ℕ → Bool
placed r words = leb r.cap 8_192 && (ltb r.slot r.cap && (leb r.len r.cap && leb (r.cap * 6) words))
