-- After a report the loss list holds what it held and, each once, the reported numbers that are buffered and sent. The
-- list ascends, so each is there once (`enter_all-ascends`); the numbers of the Added runs enter, and the runs name
-- exactly the numbers reported.
use mathlib.Core.Path.{◌∙◌, ◌≡◌, ap, refl, subst, sym}
use mathlib.Core.Bool.{Bool, false, true}
use mathlib.Core.List.{List, [], ◌++◌, ◌∷◌}
use mathlib.Core.Logic.{◌↔◌, ◌⊎◌, inl, inr}
use Prim.Native.Nat.{◌+◌, ◌-◌, ◌<◌, ◌^◌, ◌≤◌, suc, zero, ℕ}
use native.Mathlib.Omega.{arith}
use lib.Dec.{eqb, leb, ltb}
use borrow.Author.Tests.{eqb-false, eqb-true, leb-false, leb-true, lt-ltb}
use Rattle.rules.specs.Losses.{Added, Dropped, Ignored, Item, LossKind, LossRun, enter_all, enter_by, entered, kind_by, kind_of, report, runs_of}
use Rattle.rules.specs.Numbers.{distance, wire}
use Rattle.rules_theorems.specs.Demands.{On}
use Rattle.rules.specs.Sender.{Sender, insert, sent_of}
use Rattle.rules_theorems.specs.Laws.BookRules.{Good}
use Rattle.rules_theorems.specs.Laws.Numbers.{distance-wire, wire-below, wire-distance, wire_injective}
use Rattle.rules_theorems.specs.Demands.Losses.{AllOf, AllRuns, Fine, OneKind, answered, reported, up_from}
use Rattle.rules_theorems.proofs.Entering.{Inside, enter_all-on, entered_on, runs-inside}
use Rattle.rules_theorems.proofs.Losses.{runs-covers, runs-kinds}

on-left : (x : ℕ) (xs ys : List ℕ) → On x xs → On x (xs ++ ys)
on-left x (y ∷ xs) ys (inl e) = inl e
on-left x (y ∷ xs) ys (inr o) = inr (on-left x xs ys o)
on-left x [] ys o = absurd o

on-right : (x : ℕ) (xs ys : List ℕ) → On x ys → On x (xs ++ ys)
on-right x [] ys o = o
on-right x (y ∷ xs) ys o = inr (on-right x xs ys o)

on-either : (x : ℕ) (xs ys : List ℕ) → On x (xs ++ ys) → On x xs ⊎ On x ys
on-either x [] ys o = inr o
on-either x (y ∷ xs) ys (inl e) = inl (inl e)
on-either x (y ∷ xs) ys (inr o) = by (on-either x xs ys o)
  where
    by : On x xs ⊎ On x ys → On x (y ∷ xs) ⊎ On x ys
    by (inl p) = inl (inr p)
    by (inr p) = inr p

insert-new : (n : ℕ) (xs : List ℕ) → On n (insert n xs)
unfolding insert
insert-new n [] = inl refl
insert-new n (x ∷ xs) = go (ltb n x) refl (eqb n x) refl (insert-new n xs)
  where
    go : (a : Bool) → ltb n x ≡ a → (b : Bool) → eqb n x ≡ b → On n (insert n xs) → On n (insert n (x ∷ xs))
    go true e b f ih = rw (e, insert) (inl refl)
    go false e true f ih = rw (e, f, insert) (inl (eqb-true _ _ f))
    go false e false f ih = rw (e, f, insert) (inr ih)

insert-only : (m n : ℕ) (xs : List ℕ) → On m (insert n xs) → (m ≡ n) ⊎ On m xs
unfolding insert
insert-only m n [] (inl e) = inl e
insert-only m n [] (inr o) = absurd o
insert-only m n (x ∷ xs) o = go (ltb n x) refl (eqb n x) refl (λ q. insert-only m n xs q) o
  where
    past : (m ≡ n) ⊎ On m xs → (m ≡ n) ⊎ On m (x ∷ xs)
    past (inl e) = inl e
    past (inr q) = inr (inr q)

    at_once : On m (n ∷ x ∷ xs) → (m ≡ n) ⊎ On m (x ∷ xs)
    at_once (inl e) = inl e
    at_once (inr q) = inr q

    further : (On m (insert n xs) → (m ≡ n) ⊎ On m xs) → On m (x ∷ insert n xs) → (m ≡ n) ⊎ On m (x ∷ xs)
    further ih (inl e) = inr (inl e)
    further ih (inr q) = past (ih q)

    go : (a : Bool) → ltb n x ≡ a → (b : Bool) → eqb n x ≡ b → (On m (insert n xs) → (m ≡ n) ⊎ On m xs) → On m (insert n (x ∷ xs))
        → (m ≡ n) ⊎ On m (x ∷ xs)
    go true e b f ih o = at_once (rw (e, insert) at o)
    go false e true f ih o = inr (rw (e, f, insert) at o)
    go false e false f ih o = further ih (rw (e, f, insert) at o)

-- the k numbers from n on
abbrev Between : ℕ → ℕ → ℕ → Type 0
Between n k m = (n ≤ m) × (m < n + k)

entered_only : (m n k : ℕ) (xs : List ℕ) → On m (entered n k xs) → Between n k m ⊎ On m xs
unfolding entered
entered_only m n zero xs o = inr o
entered_only m n (suc k) xs o = by (entered_only m (suc n) k (insert n xs) o)
  where
    new : (m ≡ n) ⊎ On m xs → Between n (suc k) m ⊎ On m xs
    new (inl e) = inl (omega arith, omega arith)
    new (inr q) = inr q

    by : Between (suc n) k m ⊎ On m (insert n xs) → Between n (suc k) m ⊎ On m xs
    by (inl b) = inl (omega (arith, b.0), omega (arith, b.1))
    by (inr q) = new (insert-only m n xs q)

entered_all : (m n k : ℕ) (xs : List ℕ) → Between n k m → On m (entered n k xs)
unfolding entered
entered_all m n zero xs b = absurd (omega (arith, b.0, b.1))
entered_all m n (suc k) xs b = go (eqb m n) refl (λ c. entered_all m (suc n) k (insert n xs) c)
  where
    go : (t : Bool) → eqb m n ≡ t → (Between (suc n) k m → On m (entered (suc n) k (insert n xs))) → On m (entered (suc n) k (insert n xs))
    go true e ih = let q : m ≡ n = eqb-true _ _ e in entered_on m (suc n) k (insert n xs) (rw q (insert-new n xs))
    go false e ih = ih (omega (arith, b.0, eqb-false m n e), omega (arith, b.1))

module _ (s : Sender) where
  -- m is a number of an Added run
  abbrev InRun : ℕ → LossRun → Type 0
  InRun m r = (r.kind ≡ Added) × Between (s.front + distance (wire s.front) r.first) r.count m

  abbrev InRuns : ℕ → List LossRun → Type 0
  InRuns m [] = ⊥
  InRuns m (r ∷ rs) = InRun m r ⊎ InRuns m rs

  enter-only : (l : LossKind) (m n k : ℕ) (xs : List ℕ) → On m (enter_by l n k xs) → ((l ≡ Added) × Between n k m) ⊎ On m xs
  unfolding enter_by
  enter-only Added m n k xs o = by (entered_only m n k xs o)
    where
      by : Between n k m ⊎ On m xs → ((Added ≡ Added) × Between n k m) ⊎ On m xs
      by (inl b) = inl (refl, b)
      by (inr q) = inr q
  enter-only Ignored m n k xs o = inr o
  enter-only Dropped m n k xs o = inr o

  enter-all : (l : LossKind) (m n k : ℕ) (xs : List ℕ) → l ≡ Added → Between n k m → On m (enter_by l n k xs)
  unfolding enter_by
  enter-all Added m n k xs e b = entered_all m n k xs b
  enter-all Ignored m n k xs e b = absurd (let z : ◌≡◌ {A = ℕ} 0 1 = cc in omega arith)
  enter-all Dropped m n k xs e b = absurd (let z : ◌≡◌ {A = ℕ} 0 1 = cc in omega arith)

  runs-only : (rs : List LossRun) (m : ℕ) (xs : List ℕ) → On m (enter_all s rs xs) → InRuns m rs ⊎ On m xs
  unfolding enter_all
  runs-only [] m xs o = inr o
  runs-only (r ∷ rs) m xs o = by (runs-only rs m _ o)
    where
      n : ℕ
      n = s.front + distance (wire s.front) r.first

      new : ((r.kind ≡ Added) × Between n r.count m) ⊎ On m xs → InRuns m (r ∷ rs) ⊎ On m xs
      new (inl b) = inl (inl b)
      new (inr q) = inr q

      by : InRuns m rs ⊎ On m (enter_by r.kind n r.count xs) → InRuns m (r ∷ rs) ⊎ On m xs
      by (inl b) = inl (inr b)
      by (inr q) = new (enter-only r.kind m n r.count xs q)

  runs-all : (rs : List LossRun) (m : ℕ) (xs : List ℕ) → InRuns m rs → On m (enter_all s rs xs)
  unfolding enter_all
  runs-all (r ∷ rs) m xs (inl b) =
      enter_all-on s rs m _ (enter-all r.kind m (s.front + distance (wire s.front) r.first) r.count xs b.0 b.1)
  runs-all (r ∷ rs) m xs (inr b) = runs-all rs m _ b
  runs-all [] m xs b = absurd b

-- ## The numbers of a run

up-on : (m n i : ℕ) → m < 2 ^ 31 → i < n → On (wire (m + i)) (up_from m n)
unfolding up_from
up-on m zero i l h = absurd (omega arith)
up-on m (suc n) zero l h = inl (omega arith)
up-on m (suc n) (suc i) l h =
    let e : wire (m + suc i) ≡ wire (wire (suc m) + i) = omega arith in
    inr (subst (λ (y : ℕ). On y (up_from (wire (suc m)) n)) (sym e) (up-on (wire (suc m)) n i (wire-below (suc m)) (omega arith)))

up_is : (x m n : ℕ) → m < 2 ^ 31 → On x (up_from m n) → (i : ℕ) × (i < n) × (x ≡ wire (m + i))
unfolding up_from
up_is x m zero l o = absurd o
up_is x m (suc n) l (inl e) = (0, omega arith, omega arith)
up_is x m (suc n) l (inr o) =
    let y = up_is x (wire (suc m)) n (wire-below (suc m)) o in
    (suc y.0, omega (arith, y.1), y.2 ∙ same y.0)
  where
    same : (i : ℕ) → wire (wire (suc m) + i) ≡ wire (m + suc i)
    same i = omega arith

all-of-at : (s : Sender) (k : LossKind) (m n i : ℕ) → m < 2 ^ 31 → i < n → AllOf s k m n → kind_of s (wire (m + i)) ≡ k
all-of-at s k m zero i l h a = absurd (omega arith)
all-of-at s k m (suc n) zero l h a = let e : wire (m + 0) ≡ m = omega arith in rw e a.0
all-of-at s k m (suc n) (suc i) l h a =
    let e : wire (m + suc i) ≡ wire (wire (suc m) + i) = omega arith in
    rw e (all-of-at s k (wire (suc m)) n i (wire-below (suc m)) (omega arith) a.1)

module _ (s : Sender) (g : Good s) (short : sent_of s < 2 ^ 30) where
  -- number i of a run that begins at f, on the wire
  run-wire : (f i : ℕ) → f < 2 ^ 31 → wire (s.front + distance (wire s.front) f + i) ≡ wire (f + i)
  run-wire f i l = same (distance (wire s.front) f) (wire-distance s.front f l)
    where
      same : (p : ℕ) → wire (s.front + p) ≡ f → wire (s.front + p + i) ≡ wire (f + i)
      same p e = omega arith

  in_answered : (rs : List LossRun) (m : ℕ) → AllRuns (OneKind s) rs → AllRuns (Inside s) rs → InRuns s m rs
      → (s.front ≤ m) × (m < s.next) × On (wire m) (answered rs)
  unfolding answered
  in_answered (r ∷ rs) m a b (inl x) =
      let p = distance (wire s.front) r.first in
      let i : ℕ = m - (s.front + p) in
      let e : s.front + p + i ≡ m = omega (arith, x.1.0) in
      let w : wire m ≡ wire (r.first + i) = ap wire (sym e) ∙ run-wire r.first i a.0.number in
      let inside = b.0 x.0 in (
        omega (arith, x.1.0),
        omega (arith, x.1.1, g.low),
        on-left (wire m) (up_from r.first r.count) (answered rs)
            (rw w (up-on r.first r.count i a.0.number (omega (arith, x.1.0, x.1.1)))),
      )
  in_answered (r ∷ rs) m a b (inr x) =
      let y = in_answered rs m a.1 b.1 x in
      (y.0, y.1, on-right (wire m) (up_from r.first r.count) (answered rs) y.2)
  in_answered [] m a b x = absurd x

  sent-added : (m : ℕ) → s.front ≤ m → m < s.next → kind_of s (wire m) ≡ Added
  unfolding kind_of kind_by
  sent-added m lo hi =
      let d : distance (wire s.front) (wire m) ≡ m - s.front = distance-wire s.front m lo (omega arith) in
      let near : distance (wire s.front) (wire m) < sent_of s = omega arith in
      rw (lt-ltb (distance (wire s.front) (wire m)) (sent_of s) near)

  answered_in : (rs : List LossRun) (m : ℕ) → AllRuns (OneKind s) rs → AllRuns (Inside s) rs → s.front ≤ m → m < s.next
      → On (wire m) (answered rs) → InRuns s m rs
  unfolding answered
  answered_in [] m a b lo hi o = absurd o
  answered_in (r ∷ rs) m a b lo hi o =
      by (on-either (wire m) (up_from r.first r.count) (answered rs) o) (answered_in rs m a.1 b.1 lo hi)
    where
      here : (i : ℕ) × (i < r.count) × (wire m ≡ wire (r.first + i)) → InRun s m r
      here y =
          let kind : r.kind ≡ Added =
          sym (all-of-at s r.kind r.first r.count y.0 a.0.number y.1 a.0.all)
          ∙ (ap (kind_of s) (sym y.2) ∙ sent-added m lo hi)
          in
          let inside = b.0 kind in
          let p = distance (wire s.front) r.first in
          let w : wire (s.front + p + y.0) ≡ wire m = run-wire r.first y.0 a.0.number ∙ sym y.2 in
          let e : s.front + p + y.0 ≡ m = same (s.front + p + y.0) (omega arith) (omega (arith, y.1, g.low)) w in
          (kind, (omega arith, omega (arith, y.1)))
        where
          same : (x : ℕ) → s.front ≤ x → x < s.next → wire x ≡ wire m → x ≡ m
          same x l h e = go (leb x m) refl
            where
              go : (b : Bool) → leb x m ≡ b → x ≡ m
              go true q = wire_injective x m (leb-true _ _ q) (omega arith) e
              go false q = let q' : m < x = leb-false _ _ q in sym (wire_injective m x (omega arith) (omega arith) (sym e))

      by : On (wire m) (up_from r.first r.count) ⊎ On (wire m) (answered rs) → (On (wire m) (answered rs) → InRuns s m rs)
          → InRuns s m (r ∷ rs)
      by (inl q) ih = inl (here (up_is (wire m) r.first r.count a.0.number q))
      by (inr q) ih = inr (ih q)

  -- "A number is Added if buffered and sent"; "Added numbers enter the list once."
  pub report-lost : (is : List Item) → Fine is → (m : ℕ)
      → On m (report is s).lost ↔ (((s.front ≤ m) × (m < s.next) × On (wire m) (reported is)) ⊎ On m s.lost)
  unfolding report
  report-lost is f m =
      let kinds = runs-kinds s g short is f in
      let inside = runs-inside s is in
      let same = runs-covers s g short is f in (
        λ o. out kinds inside same (runs-only s (runs_of s is) m s.lost o),
        λ x. back kinds inside same x,
      )
    where
      out : AllRuns (OneKind s) (runs_of s is) → AllRuns (Inside s) (runs_of s is) → answered (runs_of s is) ≡ reported is
          → InRuns s m (runs_of s is) ⊎ On m s.lost → ((s.front ≤ m) × (m < s.next) × On (wire m) (reported is)) ⊎ On m s.lost
      out kinds inside same (inl x) =
          let y = in_answered (runs_of s is) m kinds inside x in
          inl (y.0, y.1, rw same at y.2)
      out kinds inside same (inr o) = inr o

      back : AllRuns (OneKind s) (runs_of s is) → AllRuns (Inside s) (runs_of s is) → answered (runs_of s is) ≡ reported is
          → ((s.front ≤ m) × (m < s.next) × On (wire m) (reported is)) ⊎ On m s.lost → On m (enter_all s (runs_of s is) s.lost)
      back kinds inside same (inl x) =
          runs-all s (runs_of s is) m s.lost (answered_in (runs_of s is) m kinds inside x.0 x.1 (rw (sym same) at x.2))
      back kinds inside same (inr o) = enter_all-on s (runs_of s is) m s.lost o
