-- The numbers that enter the loss list can be taken from the runs of the answer: joined runs enter the same numbers as
-- the runs of the items one by one. Document 01, "Loss words": "Added numbers enter the list once."
--   Inside s rs                  every run begins with a sequence number, and Added runs don't pass next unsent
--   runs-inside, joined-inside   this holds of the runs of a report, and of the joined ones
--   entered-sum                  the numbers of a run can enter in two parts
--   enter_all-joined             the joined runs enter what the runs enter
--   count-is                     how many numbers a run has, from its two ends
use Rattle.std.specs.Prelude.{◌≡◌, Bool, cond, ℕ, zero, suc, ◌+◌, ◌-◌, ◌^◌, ◌≤◌, ◌<◌, min, eqb}
use Rattle.std.proofs.Math.Path.{refl, ap}
use Rattle.std.proofs.Common.{sym, ◌∙◌, arith}
use Rattle.std.proofs.Math.Bool.{true, false, and-eq-true_iff}
use mathlib.Core.List.{List, [], ◌∷◌, ◌++◌}
use borrow.Author.Tests.{eqb-true}
use Rattle.rules_theorems.proofs.Entering.{reach-added}
use Rattle.rules_numbers.specs.Modular.{seqs, dist}
use Rattle.rules_numbers.specs.Modular.Laws.{plus-is, dist-plus}
use Rattle.rules.specs.Numbers.{wire, distance}
use Rattle.rules_theorems.specs.Laws.Numbers.{wire-below}
use Rattle.rules.specs.Sender.{Sender, sent_of, insert}
use Rattle.rules.specs.Losses.{Item, LossKind, Added, Ignored, Dropped, LossRun, reach, stretch, item_runs, runs_of, end_of, is_same_kind, meets, glue, joined, entered, enter_by, enter_all}
use Rattle.loss_words.specs.Runs.{merged}
use Rattle.loss_words.specs.Runs.Laws.{Numbers, is_same_kind-true}

abbrev pub Inside : Sender → List LossRun → Type 0
Inside s [] = Unit {0}
Inside s (r ∷ rs) = (r.first < 2 ^ 31) × (r.kind ≡ Added → distance (wire s.front) r.first + r.count ≤ sent_of s) × Inside s rs

-- ## The runs of a report

inside-append : (s : Sender) (rs qs : List LossRun) → Inside s rs → Inside s qs → Inside s (rs ++ qs)
inside-append s [] qs a b = b
inside-append s (r ∷ rs) qs a b = (a.0, a.1, inside-append s rs qs a.2 b)

stretch-inside : (s : Sender) (i m k : ℕ) → m < 2 ^ 31 → Inside s (stretch s i m k)
unfolding stretch
stretch-inside s zero m k h = tt
stretch-inside s (suc i) m zero h = tt
stretch-inside s (suc i) m (suc k) h =
    (h, λ e. reach-added s m (suc k) e, stretch-inside s i (wire (m + min (suc k) (reach s m))) (suc k - min (suc k) (reach s m)) (wire-below (m + min (suc k) (reach s m))))

pub runs-inside : (s : Sender) (is : List Item) → Numbers is → Inside s (runs_of s is)
unfolding runs_of item_runs
runs-inside s [] a = tt
runs-inside s (i ∷ is) a = inside-append s (item_runs s i) (runs_of s is) (stretch-inside s 3 i.first _ a.0) (runs-inside s is a.2)

-- ## Entering

pub entered-sum : (n j k : ℕ) (xs : List ℕ) → entered n (j + k) xs ≡ entered (n + j) k (entered n j xs)
unfolding entered
entered-sum n zero k xs =
    let a : 0 + k ≡ k = omega arith in
    let b : n + 0 ≡ n = omega arith in
    rw (a, b)
entered-sum n (suc j) k xs =
    let a : suc j + k ≡ suc (j + k) = omega arith in
    let b : suc n + j ≡ n + suc j = omega arith in
    rw a (entered-sum (suc n) j k (insert n xs) ∙ ap (λ (m : ℕ). entered m k (entered (suc n) j (insert n xs))) b)

-- the distance from the front of a number k further
further : (a m k : ℕ) → m < 2 ^ 31 → distance (wire a) m + k < 2 ^ 31 → distance (wire a) (wire (m + k)) ≡ distance (wire a) m + k
unfolding distance
further a m k h l = omega arith

module _ (s : Sender) (few : sent_of s < 2 ^ 31) where
  abbrev place : ℕ → ℕ
  place m = s.front + distance (wire s.front) m

  by_kind : (k : LossKind) (r q : LossRun) (xs : List ℕ) → (k ≡ Added → place q.first ≡ place r.first + r.count)
      → enter_by k (place r.first) (r.count + q.count) xs ≡ enter_by k (place q.first) q.count (enter_by k (place r.first) r.count xs)
  unfolding enter_by
  by_kind Added r q xs h = rw (h refl) (entered-sum (place r.first) r.count q.count xs)
  by_kind Ignored r q xs h = refl
  by_kind Dropped r q xs h = refl

  one-run : (r q : LossRun) (xs : List ℕ) → r.first < 2 ^ 31 → (r.kind ≡ Added → distance (wire s.front) r.first + r.count ≤ sent_of s) → meets r q ≡ true
      → enter_by r.kind (place r.first) (r.count + q.count) xs
      ≡ enter_by q.kind (place q.first) q.count (enter_by r.kind (place r.first) r.count xs)
  one-run r q xs h i m =
      let both = (and-eq-true_iff (is_same_kind r.kind q.kind) (eqb (end_of r) q.first)).0 m in
      let at : end_of r ≡ q.first = eqb-true (end_of r) q.first both.1 in
      by_kind r.kind r q xs
      (λ e. let far = further s.front r.first r.count h (omega (arith, i e)) in ap place (sym at) ∙ omega (arith, far))
      ∙ ap (λ (k : LossKind). enter_by k (place q.first) q.count (enter_by r.kind (place r.first) r.count xs)) (is_same_kind-true r.kind q.kind both.0)

  glue-enters : (r : LossRun) (qs : List LossRun) (xs : List ℕ) → r.first < 2 ^ 31
      → (r.kind ≡ Added → distance (wire s.front) r.first + r.count ≤ sent_of s)
      → enter_all s (glue r qs) xs ≡ enter_all s (r ∷ qs) xs
  unfolding glue enter_all
  glue-enters r [] xs h i = refl
  glue-enters r (q ∷ qs) xs h i = go (meets r q) refl
    where
      go : (b : Bool) → meets r q ≡ b → enter_all s (cond b (merged r q ∷ qs) (r ∷ q ∷ qs)) xs ≡ enter_all s (r ∷ q ∷ qs) xs
      go true e = ap (enter_all s qs) (one-run r q xs h i e)
      go false e = refl

  glue-inside : (r : LossRun) (qs : List LossRun) → r.first < 2 ^ 31 → (r.kind ≡ Added → distance (wire s.front) r.first + r.count ≤ sent_of s)
      → Inside s qs → Inside s (glue r qs)
  unfolding glue
  glue-inside r [] h i a = (h, i, tt)
  glue-inside r (q ∷ qs) h i a = go (meets r q) refl
    where
      go : (t : Bool) → meets r q ≡ t → Inside s (cond t (merged r q ∷ qs) (r ∷ q ∷ qs))
      go true m =
          let both = (and-eq-true_iff (is_same_kind r.kind q.kind) (eqb (end_of r) q.first)).0 m in
          let kind : r.kind ≡ q.kind = is_same_kind-true r.kind q.kind both.0 in
          let at : end_of r ≡ q.first = eqb-true (end_of r) q.first both.1 in (
            h,
            λ e.
                let far = further s.front r.first r.count h (omega (arith, i e)) in
                let last = a.1 (sym kind ∙ e) in
                omega (arith, far, ap (distance (wire s.front)) at),
            a.2,
          )
      go false m = (h, i, a)

  pub joined-inside : (rs : List LossRun) → Inside s rs → Inside s (joined rs)
  unfolding joined
  joined-inside [] a = tt
  joined-inside (r ∷ rs) a = glue-inside r (joined rs) a.0 a.1 (joined-inside rs a.2)

  pub enter_all-joined : (rs : List LossRun) (xs : List ℕ) → Inside s rs → enter_all s (joined rs) xs ≡ enter_all s rs xs
  unfolding joined enter_all
  enter_all-joined [] xs a = refl
  enter_all-joined (r ∷ rs) xs a =
      glue-enters r (joined rs) xs a.0 a.1 ∙ enter_all-joined rs (enter_by r.kind (place r.first) r.count xs) a.2

pub count-is : (r : LossRun) → r.count < 2 ^ 31 → dist seqs r.first (end_of r) ≡ r.count
count-is r h = ap (dist seqs r.first) (sym (plus-is seqs r.first r.count)) ∙ dist-plus seqs r.first r.count h
