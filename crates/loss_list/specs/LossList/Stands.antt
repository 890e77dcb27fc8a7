-- The list in the area represents the loss list of the rules, whose numbers count up without wrapping; each operation
-- on the area represents the same operation in the rules. `front` is the front in the rules; in the area it is `wire
-- front`.
--   key_of front                   the area's key: the distance from the front
--   far_first lost                 the list on the wire, reversed: the number nearest the front last
--   Stands lost front xs           xs is that list, and `lost` ascends from the front on, less than 2^31 away
--   seen front xs                  the numbers that xs represents
--   key_wire, wire-plus            the key of a number, and the number k further, on the wire
--   stands-none, stands-length     the empty list; the same number of entries
--   stands-first, stands_pop       the number nearest the front, first in the rules and last in the area; its removal
--   stands_from, stands-below      those below n go, and the front moves to n; how many they are
--   far_snoc                       one more number at the far end
--   stands-entered, stands-grows   a run of numbers enters, each once, as in the rules; no list becomes shorter
use Rattle.std.specs.Prelude.{◌≡◌, Bool, drop, get_or}
use Rattle.std.proofs.Math.Path.{refl, ap}
use Rattle.std.proofs.Common.{sym, ◌∙◌, sub-one, get_or-take, take_at, take-take, drop_at}
use Rattle.std.proofs.Math.Bool.{true, false, cond}
use mathlib.Core.List.{List, [], ◌∷◌, ◌++◌, append-nil, append_assoc}
use Prim.Native.Nat.{ℕ, zero, suc, ◌+◌, ◌-◌, ◌^◌, ◌≤◌, ◌<◌}
use Rattle.std.proofs.Math.Nat.{mod-add-mod}
use Rattle.std.proofs.Math.Decide.{dec_lt}
use native.Mathlib.Omega.{arith}
use Rattle.std.proofs.Math.Dec.{ltb}
use Rattle.std.proofs.Math.ListN.{length, take, length-append}
use Rattle.std.proofs.Math.Seq.{get_or-append_seam, length-take-le, take-length}
use borrow.Author.Tests.{lt-ltb, le-ltb, ltb-false}
use Rattle.laws.specs.Ascending.{Ascends, widen}
use Rattle.rules_numbers.specs.Modular.{seqs, plus, dist}
use Rattle.rules_numbers.specs.Modular.Laws.{plus-is}
use Rattle.rules.specs.Numbers.{wire}
use Rattle.rules_theorems.specs.Laws.Numbers.{wire-below, distance-wire, distance-is-dist}
use Rattle.rules.specs.Sender as rules
use Rattle.rules.specs.Losses as losses
use Rattle.rules_theorems.proofs.Lists.{from-ascends}
use Rattle.loss_list.specs.LossList.{staying, falling, entered}
use Rattle.loss_list.specs.LossList.Laws.{staying-few}
use Rattle.rules_theorems.proofs.Entering.{entered-ascends}
use Rattle.loss_list.specs.LossList.Runs.{nearer, run, from_all, from-from, nearer-from, entered-run, entered-longer}

abbrev pub key_of : ℕ → ℕ → ℕ
key_of front = dist seqs (wire front)

-- the numbers as they are in the area
abbrev pub far_first : List ℕ → List ℕ
far_first [] = []
far_first (n ∷ ns) = far_first ns ++ (wire n ∷ [])

pub record Stands (lost : List ℕ) (front : ℕ) (xs : List ℕ) : Type 0 where
  pub is : xs ≡ far_first lost
  pub ordered : Ascends front (front + 2 ^ 31) lost

abbrev pub seen : ℕ → List ℕ → List ℕ
seen front [] = []
seen front (y ∷ ys) = seen front ys ++ ((front + key_of front y) ∷ [])

-- ## One number

pub key_wire : (f n : ℕ) → f ≤ n → n < f + 2 ^ 31 → key_of f (wire n) ≡ n - f
key_wire f n h k = sym (distance-is-dist (wire f) (wire n) (wire-below f) (wire-below n)) ∙ distance-wire f n h k

pub wire-plus : (n k : ℕ) → plus seqs (wire n) k ≡ wire (n + k)
wire-plus n k = plus-is seqs (wire n) k ∙ mod-add-mod n (2 ^ 31) k

-- the order by distance from f is the order of the numbers
module _ (f n m : ℕ) (h : f ≤ n) (k : f ≤ m) where
  ltb-less : ltb (n - f) (m - f) ≡ ltb n m
  ltb-less = go (dec_lt n m)
    where
      go : Dec (n < m) → ltb (n - f) (m - f) ≡ ltb n m
      go (yes l) = lt-ltb (n - f) (m - f) (omega arith) ∙ sym (lt-ltb n m l)
      go (no l) = le-ltb (n - f) (m - f) (omega arith) ∙ sym (le-ltb n m (omega arith))

-- ## The list

pub stands-none : (front : ℕ) → Stands [] front []
stands-none front = record { is = refl; ordered = tt }

length-far : (lost : List ℕ) → length (far_first lost) ≡ length lost
length-far [] = refl
length-far (n ∷ ns) = rw length-append (omega (arith, length-far ns))

pub stands-length : {lost : List ℕ} {front : ℕ} {xs : List ℕ} → Stands lost front xs → length xs ≡ length lost
stands-length {lost} S = ap length S.is ∙ length-far lost

-- the last of the first suc m elements of an area, and those before it
last-is : (m : ℕ) (e l : List ℕ) (y : ℕ) → suc m ≤ length e → take (suc m) e ≡ l ++ (y ∷ []) → (get_or e m 0 ≡ y) × (take m e ≡ l)
last-is m e l y h is =
    let long : length l ≡ m =
    omega (arith, length-append l (y ∷ []), ap length is, length-take-le (suc m) e h) in (
      sym (get_or-take (suc m) e m 0 (omega arith)) ∙ ap (λ (w : List ℕ). get_or w m 0) is ∙ rw (← long) (get_or-append_seam l y [] 0),
      sym (take-take m (suc m) e (omega arith)) ∙ ap (take m) is ∙ take_at l (y ∷ []) m long,
    )

module _ {n : ℕ} {lost : List ℕ} {front : ℕ} where
  pub stands-first : (len : ℕ) (e : List ℕ) → len ≤ length e → Stands (n ∷ lost) front (take len e) → (0 < len) × (get_or e (len - 1) 0 ≡ wire n)
  stands-first zero e h S = absurd (omega (arith, stands-length S))
  stands-first (suc m) e h S = (omega arith, rw (sub-one (suc m)) (last-is m e (far_first lost) (wire n) h S.is).0)

  pub stands_pop : (len : ℕ) (e : List ℕ) → len ≤ length e → Stands (n ∷ lost) front (take len e) → Stands lost front (take (len - 1) e)
  stands_pop zero e h S = absurd (omega (arith, stands-length S))
  stands_pop (suc m) e h S = record {
    is = rw (sub-one (suc m)) (last-is m e (far_first lost) (wire n) h S.is).1;
    ordered = widen lost (omega (arith, S.ordered.0)) (omega arith) S.ordered.2;
  }

-- ## Those below a number go

module _ (f n : ℕ) (low : f ≤ n) where
  -- if the last entry stays, all do
  from-wire : (lo : ℕ) (lost : List ℕ) (len : ℕ) (e : List ℕ) → f ≤ lo → Ascends lo (f + 2 ^ 31) lost → len ≤ length e → take len e ≡ far_first lost
      → take (staying (key_of f) (n - f) len e) e ≡ far_first (rules.from n lost)
  unfolding staying rules.from
  from-wire lo [] zero e p a h is = refl
  from-wire lo (x ∷ xs) zero e p a h is = absurd (omega (arith, ap length is, length-append (far_first xs) (wire x ∷ [])))
  from-wire lo [] (suc m) e p a h is = absurd (omega (arith, ap length is, length-take-le (suc m) e h))
  from-wire lo (x ∷ xs) (suc m) e p a h is =
      let cut = last-is m e (far_first xs) (wire x) h is in
      rw (cut.0, key_wire f x (omega (arith, a.0)) a.1, ltb-less f x n (omega (arith, a.0)) low)
      (go (ltb x n) refl (from-wire (suc x) xs m e (omega (arith, a.0)) a.2 (omega arith) cut.1))
    where
      go : (b : Bool) → ltb x n ≡ b → take (staying (key_of f) (n - f) m e) e ≡ far_first (rules.from n xs)
          → take (cond b (staying (key_of f) (n - f) m e) (suc m)) e ≡ far_first (cond b (rules.from n xs) (x ∷ rules.from n xs))
      go true t ih = ih
      go false t ih = is ∙ ap (λ (l : List ℕ). far_first l ++ (wire x ∷ [])) (sym (from_all n (suc x) (f + 2 ^ 31) xs (let q = ltb-false x n t in omega arith) a.2))

  from-below : (xs : List ℕ) → length (rules.from n xs) + rules.below n xs ≡ length xs
  unfolding rules.from rules.below
  from-below [] = refl
  from-below (x ∷ xs) = go (ltb x n) (from-below xs)
    where
      go : (b : Bool) → length (rules.from n xs) + rules.below n xs ≡ length xs
          → length (cond b (rules.from n xs) (x ∷ rules.from n xs)) + cond b (suc (rules.below n xs)) (rules.below n xs) ≡ suc (length xs)
      go true e = omega arith
      go false e = omega arith

  module _ (high : n < f + 2 ^ 31) {lost : List ℕ} (len : ℕ) (e : List ℕ) (h : len ≤ length e) (S : Stands lost f (take len e)) where
    pub stands_from : Stands (rules.from n lost) n (take (staying (key_of f) (key_of f (wire n)) len e) e)
    stands_from = record {
      is = rw (key_wire f n low high) (from-wire f lost len e (omega arith) S.ordered h S.is);
      ordered = widen (rules.from n lost) (omega arith) (omega arith) (from-ascends f (f + 2 ^ 31) n lost S.ordered);
    }

    pub stands-below : len - staying (key_of f) (key_of f (wire n)) len e ≡ rules.below n lost
    stands-below =
        let stay : ℕ = staying (key_of f) (key_of f (wire n)) len e in
        let few : stay ≤ len = staying-few (key_of f) (key_of f (wire n)) e len in
        omega (arith, few, stands-length stands_from, length-take-le stay e (omega arith), stands-length S, length-take-le len e h, from-below lost)

-- ## A run enters

-- one number more at the far end, and a list of them
pub far_snoc : (n : ℕ) (lost : List ℕ) → far_first (lost ++ (n ∷ [])) ≡ wire n ∷ far_first lost
far_snoc n [] = refl
far_snoc n (x ∷ xs) = ap (λ (l : List ℕ). l ++ (wire x ∷ [])) (far_snoc n xs)

far-append : (xs ys : List ℕ) → far_first (xs ++ ys) ≡ far_first ys ++ far_first xs
far-append [] ys = sym (append-nil (far_first ys))
far-append (x ∷ xs) ys = ap (λ (l : List ℕ). l ++ (wire x ∷ [])) (far-append xs ys) ∙ append_assoc (far_first ys) (far_first xs) (wire x ∷ [])

run-far : (n k : ℕ) (lost : List ℕ) → far_first (run n k lost) ≡ falling (wire n) k ++ far_first (nearer n lost)
unfolding falling run
run-far n zero lost = refl
run-far n (suc k) lost = rw (far_snoc (n + k) (run n k lost), wire-plus n k) (ap (λ (l : List ℕ). wire (n + k) ∷ l) (run-far n k lost))

entered-wire : (f n k : ℕ) (lost xs : List ℕ) → f ≤ n → n + k < f + 2 ^ 31 → Stands lost f xs → entered (key_of f) (wire n) k xs ≡ far_first (losses.entered n k lost)
unfolding entered
entered-wire f n k lost xs h r S =
    let q : ℕ = staying (key_of f) (n - f) (length xs) xs in
    let few : q ≤ length xs = staying-few (key_of f) (n - f) xs (length xs) in
    let beyond : take q xs ≡ far_first (rules.from n lost) =
    from-wire f n h f lost (length xs) xs (omega arith) S.ordered (omega arith) (take-length xs ∙ S.is) in
    let farther : take (staying (key_of f) (n + k - f) q xs) xs ≡ far_first (rules.from (n + k) lost) =
    from-wire f (n + k) (omega arith) f (rules.from n lost) q xs (omega arith)
    (widen (rules.from n lost) (omega arith) (omega arith) (from-ascends f (f + 2 ^ 31) n lost S.ordered)) few beyond
    ∙ ap far_first (from-from n k lost) in
    let whole : xs ≡ take q xs ++ far_first (nearer n lost) =
    S.is ∙ ap far_first (nearer-from f (f + 2 ^ 31) n lost S.ordered) ∙ far-append (nearer n lost) (rules.from n lost)
    ∙ ap (λ (l : List ℕ). l ++ far_first (nearer n lost)) (sym beyond) in
    let near : drop q xs ≡ far_first (nearer n lost) =
    ap (drop q) whole ∙ drop_at (take q xs) (far_first (nearer n lost)) q (length-take-le q xs few) in
    rw (wire-plus n k, key_wire f n h (omega arith), key_wire f (n + k) (omega arith) r, farther, near, ← run-far n k lost)
    (sym (ap far_first (entered-run f (f + 2 ^ 31) n k lost h S.ordered) ∙ far-append (run n k lost) (rules.from (n + k) lost)))

pub stands-entered : (f n k : ℕ) {lost xs : List ℕ} → f ≤ n → n + k < f + 2 ^ 31 → Stands lost f xs
    → Stands (losses.entered n k lost) f (entered (key_of f) (wire n) k xs)
stands-entered f n k {lost} {xs} h r S = record {
  is = entered-wire f n k lost xs h r S;
  ordered = entered-ascends f (f + 2 ^ 31) n k lost h (omega arith) S.ordered;
}

pub stands-grows : (f n k : ℕ) {lost xs : List ℕ} → f ≤ n → n + k < f + 2 ^ 31 → Stands lost f xs → length xs ≤ length (entered (key_of f) (wire n) k xs)
stands-grows f n k {lost} h r S = omega (arith, entered-longer n k lost, stands-length S, stands-length (stands-entered f n k h r S))
