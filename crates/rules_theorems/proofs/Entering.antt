-- Entering numbers into the loss list. Added numbers lie between the front and next unsent, so the list still ascends
-- there.
use mathlib.Core.Path.{◌≡◌, ap, refl}
use mathlib.Core.Bool.{Bool, false, true}
use mathlib.Core.List.{List, [], ◌++◌, ◌∷◌}
use Prim.Native.Nat.{◌+◌, ◌-◌, ◌<◌, ◌≤◌, min, suc, zero, ℕ}
use native.Mathlib.Omega.{arith}
use lib.Dec.{ltb}
use borrow.Author.Tests.{ltb-true}
use Rattle.laws.specs.Ascending.{Ascends}
use Rattle.rules.specs.Losses.{Added, Dropped, Ignored, Item, LossKind, LossRun, enter_all, enter_by, entered, item_runs, kind_by, kind_of, reach, reach_by, runs_of, stretch}
use Rattle.rules.specs.Numbers.{distance, wire}
use Rattle.rules_theorems.specs.Demands.{On}
use Rattle.rules.specs.Sender.{Sender, insert, sent_of}
use Rattle.rules_theorems.specs.Demands.Losses.{AllRuns}
use Rattle.rules_theorems.proofs.Lists.{insert-ascends, on-insert}

added-near : (a b : Bool) → kind_by a b ≡ Added → a ≡ true
unfolding kind_by
added-near true b e = refl
added-near false true e = cc
added-near false false e = cc

-- Added numbers of the run lie before next unsent
abbrev pub Inside : Sender → LossRun → Type 0
Inside s r = r.kind ≡ Added → distance (wire s.front) r.first + r.count ≤ sent_of s

pub all-runs-append : (P : LossRun → Type 0) (rs qs : List LossRun) → AllRuns P rs → AllRuns P qs → AllRuns P (rs ++ qs)
all-runs-append P [] qs a b = b
all-runs-append P (r ∷ rs) qs a b = (a.0, all-runs-append P rs qs a.1 b)

pub reach-added : (s : Sender) (m n : ℕ) → kind_of s m ≡ Added → distance (wire s.front) m + min n (reach s m) ≤ sent_of s
unfolding kind_of reach reach_by
reach-added s m n e =
    let near : distance (wire s.front) m < sent_of s = ltb-true _ _ (added-near (ltb (distance (wire s.front) m) (sent_of s)) _ e) in
    let is : reach s m ≡ sent_of s - distance (wire s.front) m = ap (reach_by s m) e in
    omega arith

stretch-inside : (s : Sender) (f m n : ℕ) → AllRuns (Inside s) (stretch s f m n)
unfolding stretch
stretch-inside s zero m n = tt
stretch-inside s (suc f) m zero = tt
stretch-inside s (suc f) m (suc n) =
    (λ e. reach-added s m (suc n) e, stretch-inside s f (wire (m + min (suc n) (reach s m))) (suc n - min (suc n) (reach s m)))

pub runs-inside : (s : Sender) (is : List Item) → AllRuns (Inside s) (runs_of s is)
unfolding runs_of item_runs
runs-inside s [] = tt
runs-inside s (i ∷ is) = all-runs-append (Inside s) (item_runs s i) (runs_of s is) (stretch-inside s 3 i.first _) (runs-inside s is)

pub entered-ascends : (lo hi n k : ℕ) (xs : List ℕ) → lo ≤ n → n + k ≤ hi → Ascends lo hi xs → Ascends lo hi (entered n k xs)
unfolding entered
entered-ascends lo hi n zero xs p q a = a
entered-ascends lo hi n (suc k) xs p q a =
    entered-ascends lo hi (suc n) k (insert n xs) (omega arith) (omega arith) (insert-ascends lo hi n xs p (omega arith) a)

enter-ascends : (s : Sender) (l : LossKind) (n k : ℕ) (xs : List ℕ) → s.front ≤ s.next → s.front ≤ n → (l ≡ Added → n + k ≤ s.next)
    → Ascends s.front s.next xs → Ascends s.front s.next (enter_by l n k xs)
unfolding enter_by
enter-ascends s Added n k xs h p q a = entered-ascends s.front s.next n k xs p (q refl) a
enter-ascends s Ignored n k xs h p q a = a
enter-ascends s Dropped n k xs h p q a = a

pub enter_all-ascends : (s : Sender) (rs : List LossRun) (xs : List ℕ) → s.front ≤ s.next → AllRuns (Inside s) rs
    → Ascends s.front s.next xs → Ascends s.front s.next (enter_all s rs xs)
unfolding enter_all
enter_all-ascends s [] xs h i a = a
enter_all-ascends s (r ∷ rs) xs h i a =
    enter_all-ascends s rs _ h i.1
    (enter-ascends s r.kind (s.front + distance (wire s.front) r.first) r.count xs h (omega arith)
    (λ e. omega (arith, i.0 e)) a)

-- a number on the list stays there
pub entered_on : (m n k : ℕ) (xs : List ℕ) → On m xs → On m (entered n k xs)
unfolding entered
entered_on m n zero xs o = o
entered_on m n (suc k) xs o = entered_on m (suc n) k (insert n xs) (on-insert m n xs o)

enter-on : (l : LossKind) (m n k : ℕ) (xs : List ℕ) → On m xs → On m (enter_by l n k xs)
unfolding enter_by
enter-on Added m n k xs o = entered_on m n k xs o
enter-on Ignored m n k xs o = o
enter-on Dropped m n k xs o = o

pub enter_all-on : (s : Sender) (rs : List LossRun) (m : ℕ) (xs : List ℕ) → On m xs → On m (enter_all s rs xs)
unfolding enter_all
enter_all-on s [] m xs o = o
enter_all-on s (r ∷ rs) m xs o = enter_all-on s rs m _ (enter-on r.kind m _ r.count xs o)
