-- Document 01, "Loss words" (the draft, Appendix A), and row 12 of "Refusal numbers".
--   Item, Words           one number, or a range by its two ends; a report's items, or the index of the first bad item's
--                         first word
--   before, is_range      an item put before the others; whether two words are a range
--   parse, words_of       the items of words, and of a whole report
--   items_of w            its items, none where one is bad
--   LossKind, kind_of     "A number is Added if buffered and sent; else Ignored if its distance from next unsent is below
--                         2^30; else Dropped." (kind_by: by the two tests)
--   reach s m             how many consecutive numbers from m on are of m's kind (reach_by: given the kind)
--   LossRun, end_of       a run of one kind and consecutive numbers, and its exclusive end
--   item_runs, stretch    an item's runs, found from the ends of its range: there are at most three (crate
--                         rules_theorems, proofs/Losses.antt)
--   runs_of s is          the runs of all items, in order
--   is_same_kind, meets   whether one run continues another
--   joined, glue          the answer: runs that continue each other are joined
--   report                the loss list after a report: "Added numbers enter the list once." (entered, enter_by, enter_all:
--                         the numbers of a run, of a run by its kind, of all runs)
use Rattle.std.specs.Prelude.{Bool, true, false, ◌&&◌, cond, List, [], ◌∷◌, ◌++◌, ℕ, zero, suc, ◌+◌, ◌-◌, ◌^◌, min, ltb, eqb, length}
use Rattle.rules.specs.Numbers.{wire, distance}
use Rattle.rules.specs.Sender.{Sender, sent_of, insert, put}

pub record Item : Type 0 where
  pub first : ℕ
  pub last : ℕ

pub data Words : Type 0 where
  items : List Item → Words
  bad : ℕ → Words

unfoldable pub before : Item → Words → Words
before i (items is) = items (i ∷ is)
before i (bad index) = bad index

-- "top bit 1 opens a range whose next word, top bit 0, is its inclusive last. Distance first to last must be below
-- 2^30."
unfoldable pub is_range : ℕ → ℕ → Bool
is_range a b = ltb b (2 ^ 31) && ltb (distance (a - 2 ^ 31) b) (2 ^ 30)

-- "A word with top bit 0 is one number"; i is the index of the first word
unfoldable pub parse : ℕ → List ℕ → Words
parse i [] = items []
parse i (a ∷ []) = cond (ltb a (2 ^ 31)) (items (record { first = a; last = a } ∷ [])) (bad i)
parse i (a ∷ b ∷ ws) =
    let one = before (record { first = a; last = a }) (parse (suc i) (b ∷ ws)) in
    let range = before (record { first = a - 2 ^ 31; last = b }) (parse (2 + i) ws) in
    cond (ltb a (2 ^ 31)) one (cond (is_range a b) range (bad i))

-- "or 512 for too many words, whatever else is bad"
unfoldable pub words_of : List ℕ → Words
words_of ws = cond (ltb 512 (length ws)) (bad 512) (parse 0 ws)

abbrev pub items_of : Words → List Item
items_of (items is) = is
items_of (bad index) = []

pub data LossKind : Type 0 where
  Added Ignored Dropped : LossKind

unfoldable pub kind_by : Bool → Bool → LossKind
kind_by true near = Added
kind_by false true = Ignored
kind_by false false = Dropped

unfoldable pub kind_of : Sender → ℕ → LossKind
kind_of s m = kind_by (ltb (distance (wire s.front) m) (sent_of s)) (ltb (distance (wire s.next) m) (2 ^ 30))

-- Added up to next unsent, Ignored up to 2^30 past that, Dropped up to the front
unfoldable pub reach_by : Sender → ℕ → LossKind → ℕ
reach_by s m Added = sent_of s - distance (wire s.front) m
reach_by s m Ignored = 2 ^ 30 - distance (wire s.next) m
reach_by s m Dropped = 2 ^ 31 - distance (wire s.front) m

unfoldable pub reach : Sender → ℕ → ℕ
reach s m = reach_by s m (kind_of s m)

pub record LossRun : Type 0 where
  pub kind : LossKind
  pub first : ℕ
  pub count : ℕ

abbrev pub end_of : LossRun → ℕ
end_of r = wire (r.first + r.count)

-- the runs of the n numbers from m on, at most f runs
unfoldable pub stretch : Sender → ℕ → ℕ → ℕ → List LossRun
stretch s zero m n = []
stretch s (suc f) m zero = []
stretch s (suc f) m (suc n) =
    let k = min (suc n) (reach s m) in
    record { kind = kind_of s m; first = m; count = k } ∷ stretch s f (wire (m + k)) (suc n - k)

unfoldable pub item_runs : Sender → Item → List LossRun
item_runs s i = stretch s 3 i.first (suc (distance i.first i.last))

unfoldable pub runs_of : Sender → List Item → List LossRun
runs_of s [] = []
runs_of s (i ∷ is) = item_runs s i ++ runs_of s is

abbrev pub is_same_kind : LossKind → LossKind → Bool
is_same_kind Added Added = true
is_same_kind Added Ignored = false
is_same_kind Added Dropped = false
is_same_kind Ignored Added = false
is_same_kind Ignored Ignored = true
is_same_kind Ignored Dropped = false
is_same_kind Dropped Added = false
is_same_kind Dropped Ignored = false
is_same_kind Dropped Dropped = true

-- r continues into q: "of one kind and consecutive numbers"
abbrev pub meets : LossRun → LossRun → Bool
meets r q = is_same_kind r.kind q.kind && eqb (end_of r) q.first

unfoldable pub glue : LossRun → List LossRun → List LossRun
glue r [] = r ∷ []
glue r (q ∷ qs) = cond (meets r q) (record { kind = r.kind; first = r.first; count = r.count + q.count } ∷ qs) (r ∷ q ∷ qs)

-- "maximal runs .., also across items"
unfoldable pub joined : List LossRun → List LossRun
joined [] = []
joined (r ∷ rs) = glue r (joined rs)

-- the list with the k numbers from n on entered
unfoldable pub entered : ℕ → ℕ → List ℕ → List ℕ
entered n zero xs = xs
entered n (suc k) xs = entered (suc n) k (insert n xs)

unfoldable pub enter_by : LossKind → ℕ → ℕ → List ℕ → List ℕ
enter_by Added n k xs = entered n k xs
enter_by Ignored n k xs = xs
enter_by Dropped n k xs = xs

unfoldable pub enter_all : Sender → List LossRun → List ℕ → List ℕ
enter_all s [] xs = xs
enter_all s (r ∷ rs) xs =
    enter_all s rs (enter_by r.kind (s.front + distance (wire s.front) r.first) r.count xs)

unfoldable pub report : List Item → Sender → Sender
report is s = put s s.packets s.front s.next (enter_all s (runs_of s is) s.lost) s.bytes
