-- The answer to a loss report.
--   up_from m n          the n 31-bit numbers from m on
--   reported, answered   the numbers that a report names, and those that an answer names, in order
--   AllOf s k m n        the n numbers from m on are all of kind k
--   OneKind, AllRuns     a run is not empty, and all its numbers are of its kind; what holds of every run
--   Maximal              no run continues into the next one
--   AllWords, Fine       loss words are u32; the items of a well-formed report
--   RunsOf s is rs       rs is the answer to the items is: maximal runs of one kind that name exactly the numbers
--                        reported, in order
use Rattle.std.specs.Prelude.{◌≡◌, false, List, [], ◌++◌, ◌∷◌, ◌*◌, ◌<◌, ◌^◌, ◌≤◌, suc, zero, ℕ, length}
use Rattle.rules.specs.Losses.{Item, LossKind, LossRun, kind_of, meets}
use Rattle.rules.specs.Numbers.{distance, wire}
use Rattle.rules.specs.Sender.{Sender}

unfoldable pub up_from : ℕ → ℕ → List ℕ
up_from m zero = []
up_from m (suc n) = m ∷ up_from (wire (suc m)) n

unfoldable pub reported : List Item → List ℕ
reported [] = []
reported (i ∷ is) = up_from i.first (suc (distance i.first i.last)) ++ reported is

unfoldable pub answered : List LossRun → List ℕ
answered [] = []
answered (r ∷ rs) = up_from r.first r.count ++ answered rs

abbrev pub AllOf : Sender → LossKind → ℕ → ℕ → Type 0
AllOf s k m zero = Unit {0}
AllOf s k m (suc n) = (kind_of s m ≡ k) × AllOf s k (wire (suc m)) n

pub record OneKind (s : Sender) (r : LossRun) : Type 0 where
  pub number : r.first < 2 ^ 31
  pub filled : 1 ≤ r.count
  pub all : AllOf s r.kind r.first r.count

abbrev pub Maximal : List LossRun → Type 0
Maximal [] = Unit {0}
Maximal (r ∷ []) = Unit {0}
Maximal (r ∷ q ∷ rs) = (meets r q ≡ false) × Maximal (q ∷ rs)

abbrev pub AllRuns : (LossRun → Type 0) → List LossRun → Type 0
AllRuns P [] = Unit {0}
AllRuns P (r ∷ rs) = P r × AllRuns P rs

abbrev pub AllWords : List ℕ → Type 0
AllWords [] = Unit {0}
AllWords (w ∷ ws) = (w < 2 ^ 32) × AllWords ws

abbrev pub Fine : List Item → Type 0
Fine [] = Unit {0}
Fine (i ∷ is) = (i.first < 2 ^ 31) × (distance i.first i.last < 2 ^ 30) × Fine is

pub record RunsOf (s : Sender) (is : List Item) (rs : List LossRun) : Type 0 where
  pub covers : answered rs ≡ reported is
  pub kinds : AllRuns (OneKind s) rs
  pub maximal : Maximal rs
  pub few : length rs ≤ 3 * length is
