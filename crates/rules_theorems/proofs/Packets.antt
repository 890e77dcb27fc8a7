-- Lists of packets: what holds of all of them, and their wire sizes, after taking, dropping, setting and appending. By
-- induction on the list.
use mathlib.Core.Path.{◌≡◌, refl}
use mathlib.Core.List.{List, [], ◌++◌, ◌∷◌}
use Prim.Native.Nat.{◌+◌, ◌-◌, ◌<◌, suc, zero, ℕ}
use native.Mathlib.Omega.{arith}
use native.Mathlib.Nat.{sub-zero, suc-sub-suc, zero-sub}
use lib.ListN.{drop, get_or, length, set, take}
use lib.Seq.{drop-drop, take-nil}
use Rattle.rules.specs.Sender.{Packet, nothing, wire_sizes}
use Rattle.rules.specs.Settings.{Settings}
use Rattle.rules_theorems.specs.Laws.BookRules.{All}

module _ (P : Packet → Type 0) where
  pub all_drop : (k : ℕ) (ps : List Packet) → All P ps → All P (drop k ps)
  all_drop zero ps a = a
  all_drop (suc k) [] a = a
  all_drop (suc k) (p ∷ ps) a = all_drop k ps a.1

  pub all_set : (ps : List Packet) (i : ℕ) (x : Packet) → All P ps → P x → All P (set ps i x)
  all_set [] i x a h = a
  all_set (p ∷ ps) zero x a h = (h, a.1)
  all_set (p ∷ ps) (suc i) x a h = (a.0, all_set ps i x a.1 h)

  pub all_snoc : (ps qs : List Packet) → All P ps → All P qs → All P (ps ++ qs)
  all_snoc [] qs a b = b
  all_snoc (p ∷ ps) qs a b = (a.0, all_snoc ps qs a.1 b)

  pub all-at : (ps : List Packet) (i : ℕ) → i < length ps → All P ps → P (get_or ps i nothing)
  all-at [] i h a = absurd (omega arith)
  all-at (p ∷ ps) zero h a = a.0
  all-at (p ∷ ps) (suc i) h a = all-at ps i (omega arith) a.1

pub take-drop : (k m : ℕ) (ps : List Packet) → take (m - k) (drop k ps) ≡ drop k (take m ps)
take-drop zero m ps = rw (sub-zero m)
take-drop (suc k) zero ps = rw (zero-sub (suc k))
take-drop (suc k) (suc m) [] = take-nil (suc m - suc k)
take-drop (suc k) (suc m) (p ∷ ps) = rw (suc-sub-suc m k) (take-drop k m ps)

pub drop_past : (k m : ℕ) (ps : List Packet) → drop (m - k) (drop k ps) ≡ drop (k - m) (drop m ps)
drop_past k m ps = let h : k + (m - k) ≡ m + (k - m) = omega arith in rw (drop-drop (m - k) k, drop-drop (k - m) m, h)

module _ (c : Settings) where
  pub sizes_append : (ps qs : List Packet) → wire_sizes c (ps ++ qs) ≡ wire_sizes c ps + wire_sizes c qs
  unfolding wire_sizes
  sizes_append [] qs = omega arith
  sizes_append (p ∷ ps) qs = omega (arith, sizes_append ps qs)

  pub sizes_drop : (k : ℕ) (ps : List Packet) → wire_sizes c (take k ps) + wire_sizes c (drop k ps) ≡ wire_sizes c ps
  unfolding wire_sizes
  sizes_drop zero ps = omega arith
  sizes_drop (suc k) [] = omega arith
  sizes_drop (suc k) (p ∷ ps) = omega (arith, sizes_drop k ps)

  pub sizes_set : (ps : List Packet) (i : ℕ) (x : Packet) → x.len ≡ (get_or ps i nothing).len → wire_sizes c (set ps i x) ≡ wire_sizes c ps
  unfolding wire_sizes
  sizes_set [] i x e = refl
  sizes_set (p ∷ ps) zero x e = omega arith
  sizes_set (p ∷ ps) (suc i) x e = omega (arith, sizes_set ps i x e)
