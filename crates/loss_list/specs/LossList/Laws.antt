-- What the code uses of the loss list, on plain lists and for every key.
--   Fits, Left           what a function requires of the area, and what it leaves: the list's length and elements
--   Filled               what taking out the nearest asks of an area
--   moved, written       an area with some elements moved up, and with a run written
--   length_over, take-over, set-over, over-over
--                        an area with a list in its first elements: its length, the list, one more entry, a longer list
--   staying-none, staying-on, staying-end, staying-few
--                        no entry; the last entry goes, or stays with all before it; no more stay than there were
--   staying-taken        only the first n elements count
--   Entering, entering   what `enter` leaves, given the two places in the list
--   descends-on, descends-not, descends-end, keeps-is, keeps-beyond
--                        the check, entry by entry (the code's is of a whole list: whole-on, whole-not, whole-end, keeps-whole)
--   nearest-slice, staying-slice, keeps-slice
--                        the first n elements as a slice: its last, how many stay, the check
use Rattle.std.specs.Prelude.{◌≡◌, Bool, List, [], ◌∷◌, ◌++◌, ltb, length, take, drop, set, get_or}
use Rattle.std.proofs.Math.Path.{refl, ap}
use Rattle.std.proofs.Common.{sym, ◌∙◌, append_assoc, not-suc-le-zero, le_of_eq, add-one, sub-one, length-append, length-drop, drop_of_length-le, drop-cons, drop_at, drop-drop, get_or-take}
use Rattle.std.proofs.Math.Bool.{true, false, cond}
use Prim.Native.Nat.{ℕ, zero, suc, ◌+◌, ◌-◌, ◌≤◌, ◌<◌, zero-le}
use Rattle.std.proofs.Math.Nat.{le_refl}
use native.Mathlib.Omega.{arith}
use Rattle.std.proofs.Math.Seq.{slice, length-slice, take-length, take-take, drop-append-add, set-append_seam, append_snoc, length-take-le, take-append_seam}
use Rattle.std.proofs.lemmas.List.{take-append-le}
use borrow.Author.Tests.{lt-ltb, le-ltb, le-leb, lt-leb}
use Rattle.rules_numbers.specs.Modular.{seqs, plus, dist}
use Rattle.loss_list.specs.LossList.{over, staying, falling, entered, in_order, descends, keeps}

-- the first n elements of the area e become the list xs, which is no shorter
pub record Fits (n : ℕ) (xs e : List ℕ) : Type 0 where
  pub inside : n ≤ length e
  pub grows : n ≤ length xs
  pub room : length xs ≤ length e

-- the area e becomes l, whose first n elements are the list xs
pub record Left (n : ℕ) (l xs e : List ℕ) : Type 0 where
  pub count : n ≡ length xs
  pub area : l ≡ over xs e

-- the list in the first n elements of e has an entry
pub record Filled (n : ℕ) (e : List ℕ) : Type 0 where
  pub some : 0 < n
  pub inside : n ≤ length e

-- the area l with the elements from i up to n moved up
abbrev pub moved : List ℕ → ℕ → ℕ → ℕ → List ℕ
moved l i n by = take (i + by) l ++ (slice i n l ++ drop (n + by) l)

-- the area l with the k numbers from x on written from i up to n
abbrev pub written : List ℕ → ℕ → ℕ → ℕ → ℕ → List ℕ
written l i n x k = take i l ++ (falling x k ++ drop n l)

-- ## Areas

pub length_over : (xs e : List ℕ) → length xs ≤ length e → length (over xs e) ≡ length e
length_over xs e h = simp (length-append, length-drop) (omega arith)

pub set-over : (xs e : List ℕ) (y : ℕ) → length xs < length e → set (over xs e) (length xs) y ≡ over (xs ++ (y ∷ [])) e
set-over xs e y h =
    rw (drop-cons e (length xs) 0 h, set-append_seam xs, length-append, add-one) (sym (append_snoc xs y (drop (suc (length xs)) e)))

pub take-over : (xs e : List ℕ) → take (length xs) (over xs e) ≡ xs
take-over xs e = take-append_seam xs (drop (length xs) e)

pub over-over : (xs ys e : List ℕ) → length xs ≤ length ys → over ys (over xs e) ≡ over ys e
over-over xs ys e h =
    let split : length xs + (length ys - length xs) ≡ length ys = omega arith in
    ap (λ (l : List ℕ). ys ++ l)
    (ap (λ (n : ℕ). drop n (over xs e)) (sym split)
    ∙ drop-append-add xs (drop (length xs) e) (length ys - length xs)
    ∙ drop-drop (length ys - length xs) (length xs) e
    ∙ ap (λ (n : ℕ). drop n e) split)

-- ## Removing

module _ (key : ℕ → ℕ) (k : ℕ) (e : List ℕ) where
  pub staying-none : staying key k 0 e ≡ 0
  unfolding staying
  staying-none = refl

  pub staying-on : (n : ℕ) → 0 < n → key (get_or e (n - 1) 0) < k → staying key k n e ≡ staying key k (n - 1) e
  unfolding staying
  staying-on zero some h = absurd (not-suc-le-zero some)
  staying-on (suc n) some h = let low : key (get_or e n 0) < k = rw (sub-one (suc n)) at h in rw (sub-one (suc n), lt-ltb _ _ low)

  pub staying-end : (n : ℕ) → 0 < n → k ≤ key (get_or e (n - 1) 0) → staying key k n e ≡ n
  unfolding staying
  staying-end zero some h = absurd (not-suc-le-zero some)
  staying-end (suc n) some h = let high : k ≤ key (get_or e n 0) = rw (sub-one (suc n)) at h in rw (le-ltb _ _ high)

  pub staying-taken : (len n : ℕ) → n ≤ len → staying key k n (take len e) ≡ staying key k n e
  unfolding staying
  staying-taken len zero h = refl
  staying-taken len (suc n) h = rw (get_or-take len e n 0 h, staying-taken len n (omega arith))

  pub staying-few : (n : ℕ) → staying key k n e ≤ n
  unfolding staying
  staying-few zero = zero-le
  staying-few (suc n) = go (ltb (key (get_or e n 0)) k) (staying-few n)
    where
      go : (b : Bool) → staying key k n e ≤ n → cond b (staying key k n e) (suc n) ≤ suc n
      go true h = omega arith
      go false h = le_refl (suc n)

-- ## Entering

length-falling : (x k : ℕ) → length (falling x k) ≡ k
unfolding falling
length-falling x zero = refl
length-falling x (suc k) = ap suc (length-falling x k)

-- the k numbers from x on enter between the places far and near of the list in the first n elements of e
pub record Entering (key : ℕ → ℕ) (x k n : ℕ) (e : List ℕ) (near far : ℕ) : Type 0 where
  pub inside : near ≤ n
  pub before : far ≤ near
  pub up : near ≤ far + k
  pub room : n + (far + k - near) ≤ length e
  pub left : (l m : List ℕ) → m ≡ moved e near n (far + k - near) → l ≡ written m (far + k - k) (far + k) x k
      → Left (n + (far + k - near)) l (entered key x k (take n e)) e

-- near is the place of the run's first number, and far that of the number after its last
module _ (key : ℕ → ℕ) (x k n : ℕ) (e : List ℕ) (near far : ℕ) (a : near ≡ staying key (key x) n e) (b : far ≡ staying key (key (plus seqs x k)) near e)
    (F : Fits n (entered key x k (take n e)) e) where
  near-few : near ≤ n
  near-few = rw a (staying-few key (key x) e n)

  far-few : far ≤ near
  far-few = rw b (staying-few key (key (plus seqs x k)) e near)

  entered-is : entered key x k (take n e) ≡ take far e ++ (falling x k ++ slice near n e)
  unfolding entered
  entered-is =
      rw (
        length-take-le n e F.inside,
        staying-taken key (key x) e n n (le_refl n),
        ← a,
        staying-taken key (key (plus seqs x k)) e n near near-few,
        ← b,
        take-take far n e (omega (arith, near-few, far-few)),
      )

  entered-length : length (entered key x k (take n e)) ≡ far + k + (n - near)
  entered-length =
      let long = length-take-le far e (omega (arith, near-few, far-few, F.inside)) in
      rw (entered-is, length-append, length-append, long, length-falling x k, length-slice near n e F.inside) (omega arith)

  enter-up : near ≤ far + k
  enter-up = omega (arith, entered-length, F.grows, near-few)

  enter-room : n + (far + k - near) ≤ length e
  enter-room = omega (arith, entered-length, F.room, enter-up, near-few)

  enter-left : Left (n + (far + k - near)) (written (moved e near n (far + k - near)) (far + k - k) (far + k) x k) (entered key x k (take n e)) e
  enter-left =
      let end : near + (far + k - near) ≡ far + k = omega (arith, enter-up) in
      let long : length (take (far + k) e) ≡ far + k = length-take-le (far + k) e (omega (arith, enter-room, near-few)) in
      let tail : List ℕ = slice near n e ++ drop (n + (far + k - near)) e in
      let start : far + k - k ≡ far = omega arith in
      let before : take far (take (far + k) e ++ tail) ≡ take far e =
      take-append-le far (take (far + k) e) tail (omega (arith, long)) ∙ take-take far (far + k) e (omega arith) in
      let all : length (entered key x k (take n e)) ≡ n + (far + k - near) = omega (arith, entered-length, enter-up, near-few) in
      record {
        count = sym all;
        area = rw (end, start, before, drop_at (take (far + k) e) tail (far + k) long, all, entered-is)
            (sym (append_assoc (take far e) (falling x k ++ slice near n e) (drop (n + (far + k - near)) e)
            ∙ ap (λ (l : List ℕ). take far e ++ l) (append_assoc (falling x k) (slice near n e) (drop (n + (far + k - near)) e))));
      }

  pub entering : Entering key x k n e near far
  entering = record { inside = near-few; before = far-few; up = enter-up; room = enter-room; left = λ l m a b. rw (b, a) enter-left }

-- ## The check

module _ (key : ℕ → ℕ) (l : List ℕ) where
  module _ (i hi : ℕ) (inside : i < length l) where
    whole-cut : drop i l ≡ get_or l i 0 ∷ drop (i + 1) l
    whole-cut = rw (add-one i) (drop-cons l i 0 inside)

    pub whole-on : in_order hi (key (get_or l i 0)) (get_or l i 0) ≡ true
        → descends key hi (drop i l) ≡ descends key (key (get_or l i 0)) (drop (i + 1) l)
    unfolding descends
    whole-on h = ap (descends key hi) whole-cut ∙ rw h

    pub whole-not : in_order hi (key (get_or l i 0)) (get_or l i 0) ≡ false → descends key hi (drop i l) ≡ false
    unfolding descends
    whole-not h = ap (descends key hi) whole-cut ∙ rw h

  pub whole-end : (hi : ℕ) → descends key hi (drop (length l) l) ≡ true
  unfolding descends
  whole-end hi = ap (descends key hi) (drop_of_length-le l (le_refl (length l)))

module _ (key : ℕ → ℕ) (l : List ℕ) (n : ℕ) (room : n ≤ length l) where
  module _ (i hi : ℕ) (inside : i < n) where
    cut : drop i (take n l) ≡ get_or l i 0 ∷ drop (i + 1) (take n l)
    cut =
        let len : length (take n l) ≡ n = length-take-le n l room in
        rw (add-one i) (drop-cons (take n l) i 0 (omega arith) ∙ ap (λ (y : ℕ). y ∷ drop (suc i) (take n l)) (get_or-take n l i 0 inside))

    pub descends-on : in_order hi (key (get_or l i 0)) (get_or l i 0) ≡ true
        → descends key hi (drop i (take n l)) ≡ descends key (key (get_or l i 0)) (drop (i + 1) (take n l))
    unfolding descends
    descends-on h = ap (descends key hi) cut ∙ rw h

    pub descends-not : in_order hi (key (get_or l i 0)) (get_or l i 0) ≡ false → descends key hi (drop i (take n l)) ≡ false
    unfolding descends
    descends-not h = ap (descends key hi) cut ∙ rw h

  pub descends-end : (hi : ℕ) → descends key hi (drop n (take n l)) ≡ true
  unfolding descends
  descends-end hi = ap (descends key hi) (drop_of_length-le (take n l) (le_of_eq (length-take-le n l room)))

pub keeps-is : (f hi n : ℕ) (e : List ℕ) → n ≤ length e → keeps f hi n e ≡ descends (dist seqs f) hi (take n e)
unfolding keeps
keeps-is f hi n e h = rw (le-leb n (length e) h)

pub keeps-beyond : (f hi n : ℕ) (e : List ℕ) → length e < n → keeps f hi n e ≡ false
unfolding keeps
keeps-beyond f hi n e h = rw (lt-leb n (length e) h)

-- the whole of a list
pub keeps-whole : (f hi : ℕ) (l : List ℕ) → keeps f hi (length l) l ≡ descends (dist seqs f) hi l
keeps-whole f hi l = keeps-is f hi (length l) l (le_refl (length l)) ∙ ap (descends (dist seqs f) hi) (take-length l)

-- ## The first elements as a slice

module _ (n : ℕ) (e : List ℕ) (room : n ≤ length e) where
  pub nearest-slice : 0 < n → get_or (take n e) (length (take n e) - 1) 0 ≡ get_or e (n - 1) 0
  nearest-slice some = rw (length-take-le n e room) (get_or-take n e (n - 1) 0 (omega arith))

  pub staying-slice : (key : ℕ → ℕ) (k : ℕ) → staying key k (length (take n e)) (take n e) ≡ staying key k n e
  staying-slice key k = rw (length-take-le n e room) (staying-taken key k e n n (le_refl n))

  pub keeps-slice : (f hi : ℕ) → keeps f hi (length (take n e)) (take n e) ≡ keeps f hi n e
  keeps-slice f hi = keeps-whole f hi (take n e) ∙ sym (keeps-is f hi n e room)
