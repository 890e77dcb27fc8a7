-- The answer to a loss report from its runs: an item has at most three, and runs that continue each other are joined,
-- also across items. The joined runs name the same numbers, each is still of one kind, and none continues into the
-- next.
use mathlib.Core.Path.{◌∙◌, ◌≡◌, ap, refl, sym}
use mathlib.Core.Bool.{◌&&◌, true}
use mathlib.Core.List.{List, [], ◌++◌, ◌∷◌, append_assoc}
use Prim.Native.Nat.{◌*◌, ◌+◌, ◌-◌, ◌<◌, ◌^◌, ◌≤◌, min, suc, zero, ℕ}
use native.Mathlib.Omega.{arith}
use lib.Dec.{eqb}
use lib.ListN.{length, length-append}
use borrow.Author.Tests.{eqb-true}
use Rattle.laws.specs.Bools.{and_l, and_r}
use Rattle.laws.specs.Choice.{cond-by}
use Rattle.rules.specs.Losses.{Added, Dropped, Ignored, Item, LossKind, LossRun, end_of, glue, item_runs, joined, meets, reach, runs_of, is_same_kind, stretch}
use Rattle.rules.specs.Numbers.{distance, wire}
use Rattle.rules.specs.Sender.{Sender}
use Rattle.rules_theorems.specs.Demands.Losses.{AllOf, AllRuns, Maximal, OneKind, answered, up_from}

stretch-three : (s : Sender) (f m n : ℕ) → length (stretch s f m n) ≤ f
unfolding stretch
stretch-three s zero m n = omega arith
stretch-three s (suc f) m zero = omega arith
stretch-three s (suc f) m (suc n) = omega (arith, stretch-three s f (wire (m + min (suc n) (reach s m))) (suc n - min (suc n) (reach s m)))

-- "Room needed: three per item"
pub item_three : (s : Sender) (i : Item) → length (item_runs s i) ≤ 3
unfolding item_runs
item_three s i = stretch-three s 3 i.first (suc (distance i.first i.last))

runs-length : (s : Sender) (is : List Item) → length (runs_of s is) ≤ 3 * length is
unfolding runs_of
runs-length s [] = omega arith
runs-length s (i ∷ is) = rw length-append (omega (arith, item_three s i, runs-length s is))

glue-length : (r : LossRun) (qs : List LossRun) → length (glue r qs) ≤ suc (length qs)
unfolding glue
glue-length r [] = omega arith
glue-length r (q ∷ qs) =
    cond-by (λ (l : List LossRun). length l ≤ suc (suc (length qs))) (meets r q) _ _ (λ e. omega arith) (λ e. omega arith)

joined_length : (rs : List LossRun) → length (joined rs) ≤ length rs
unfolding joined
joined_length [] = omega arith
joined_length (r ∷ rs) = omega (arith, glue-length r (joined rs), joined_length rs)

pub answer-room : (s : Sender) (is : List Item) → length (joined (runs_of s is)) ≤ 3 * length is
answer-room s is = omega (arith, joined_length (runs_of s is), runs-length s is)

-- ## Maximal

abbrev both : LossRun → LossRun → LossRun
both r q = record { kind = r.kind; first = r.first; count = r.count + q.count }

same_kind : (k l : LossKind) → is_same_kind k l ≡ true → k ≡ l
same_kind Added Added e = refl
same_kind Added Ignored e = cc
same_kind Added Dropped e = cc
same_kind Ignored Added e = cc
same_kind Ignored Ignored e = refl
same_kind Ignored Dropped e = cc
same_kind Dropped Added e = cc
same_kind Dropped Ignored e = cc
same_kind Dropped Dropped e = refl

meets-kind : (r q : LossRun) → meets r q ≡ true → r.kind ≡ q.kind
meets-kind r q e = same_kind r.kind q.kind (and_l (is_same_kind r.kind q.kind) (eqb (end_of r) q.first) e)

meets-end : (r q : LossRun) → meets r q ≡ true → end_of r ≡ q.first
meets-end r q e = eqb-true _ _ (and_r (is_same_kind r.kind q.kind) (eqb (end_of r) q.first) e)

-- two joined runs end where the second one ends, and are of its kind
both-meets : (r q x : LossRun) → meets r q ≡ true → meets (both r q) x ≡ meets q x
both-meets r q x e =
    let k = meets-kind r q e in
    let f : wire (r.first + (r.count + q.count)) ≡ wire (q.first + q.count) = omega (arith, meets-end r q e) in
    ap (λ (l : LossKind). is_same_kind l x.kind && eqb (end_of (both r q)) x.first) k
    ∙ ap (λ (n : ℕ). is_same_kind q.kind x.kind && eqb n x.first) f

glue-maximal : (r : LossRun) (qs : List LossRun) → Maximal qs → Maximal (glue r qs)
unfolding glue
glue-maximal r [] m = tt
glue-maximal r (q ∷ qs) m = cond-by Maximal (meets r q) (both r q ∷ qs) (r ∷ (q ∷ qs)) (λ e. on qs e m) (λ e. (e, m))
  where
    on : (xs : List LossRun) → meets r q ≡ true → Maximal (q ∷ xs) → Maximal (both r q ∷ xs)
    on [] e m = tt
    on (x ∷ xs) e m = (both-meets r q x e ∙ m.0, m.1)

pub answer-maximal : (rs : List LossRun) → Maximal (joined rs)
unfolding joined
answer-maximal [] = tt
answer-maximal (r ∷ rs) = glue-maximal r (joined rs) (answer-maximal rs)

-- ## The numbers

pub up-append : (m p q : ℕ) → m < 2 ^ 31 → up_from m (p + q) ≡ up_from m p ++ up_from (wire (m + p)) q
unfolding up_from
up-append m zero q h =
    let a : 0 + q ≡ q = omega arith in
    let b : wire (m + 0) ≡ m = omega arith in
    rw (a, b)
up-append m (suc p) q h =
    let a : suc p + q ≡ suc (p + q) = omega arith in
    let b : wire (m + suc p) ≡ wire (wire (suc m) + p) = omega arith in
    rw (a, b) (ap {B = List ℕ} (λ l. m ∷ l) (up-append (wire (suc m)) p q (omega arith)))

all_append : (s : Sender) (k : LossKind) (m p q : ℕ) → m < 2 ^ 31 → AllOf s k m p → AllOf s k (wire (m + p)) q → AllOf s k m (p + q)
all_append s k m zero q h a b =
    let e : wire (m + 0) ≡ m = omega arith in
    let f : 0 + q ≡ q = omega arith in
    rw f (rw e at b)
all_append s k m (suc p) q h a b =
    let e : wire (m + suc p) ≡ wire (wire (suc m) + p) = omega arith in
    let f : suc p + q ≡ suc (p + q) = omega arith in
    rw f (a.0, all_append s k (wire (suc m)) p q (omega arith) a.1 (rw e at b))

module _ (s : Sender) where
  glue-kinds : (r : LossRun) (qs : List LossRun) → OneKind s r → AllRuns (OneKind s) qs → AllRuns (OneKind s) (glue r qs)
  unfolding glue
  glue-kinds r [] o a = (o, tt)
  glue-kinds r (q ∷ qs) o a =
      cond-by (AllRuns (OneKind s)) (meets r q) (both r q ∷ qs) (r ∷ (q ∷ qs))
      (λ e. (
        record {
          number = o.number;
          filled = omega (arith, o.filled);
          all = all_append s r.kind r.first r.count q.count o.number o.all
              (rw (meets-kind r q e, meets-end r q e) a.0.all);
        },
        a.1,
      ))
      (λ e. (o, a))

  glue-answered : (r : LossRun) (qs : List LossRun) → OneKind s r → answered (glue r qs) ≡ up_from r.first r.count ++ answered qs
  unfolding glue answered
  glue-answered r [] o = refl
  glue-answered r (q ∷ qs) o =
      cond-by (λ (l : List LossRun). answered l ≡ up_from r.first r.count ++ (up_from q.first q.count ++ answered qs)) (meets r q)
      (both r q ∷ qs) (r ∷ (q ∷ qs))
      (λ e. ap (λ (l : List ℕ). l ++ answered qs) (up-append r.first r.count q.count o.number)
      ∙ (append_assoc (up_from r.first r.count) (up_from (end_of r) q.count) (answered qs)
      ∙ ap (λ (n : ℕ). up_from r.first r.count ++ (up_from n q.count ++ answered qs)) (meets-end r q e)))
      (λ e. refl)

  pub joined-kinds : (rs : List LossRun) → AllRuns (OneKind s) rs → AllRuns (OneKind s) (joined rs)
  unfolding joined
  joined-kinds [] a = tt
  joined-kinds (r ∷ rs) a = glue-kinds r (joined rs) a.0 (joined-kinds rs a.1)

  pub joined-answered : (rs : List LossRun) → AllRuns (OneKind s) rs → answered (joined rs) ≡ answered rs
  unfolding joined answered
  joined-answered [] a = refl
  joined-answered (r ∷ rs) a =
      glue-answered r (joined rs) a.0 ∙ ap (λ (l : List ℕ). up_from r.first r.count ++ l) (joined-answered rs a.1)

  pub answered-append : (rs qs : List LossRun) → answered (rs ++ qs) ≡ answered rs ++ answered qs
  unfolding answered
  answered-append [] qs = refl
  answered-append (r ∷ rs) qs =
      ap (λ (l : List ℕ). up_from r.first r.count ++ l) (answered-append rs qs)
      ∙ sym (append_assoc (up_from r.first r.count) (answered rs) (answered qs))
