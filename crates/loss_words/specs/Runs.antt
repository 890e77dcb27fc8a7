-- The answer to a loss report, as the words of a lent list. Document 01, "Loss words": "A number is Added if buffered
-- and sent; else Ignored if its distance from next unsent is below 2^30; else Dropped. The answer lists, in order,
-- maximal runs of one kind and consecutive numbers, also across items; each has an exclusive end." Here f is the front,
-- and n packets are sent from there on.
--   code_of k                      the number of a kind in the list: 1 Added, 2 Ignored, 3 Dropped
--   word_of k                      the same of a kind as the code has it
--   words_for rs                   three words per run: its kind, its first number, its exclusive end
--   kind_at, reach_at f n m        the kind of the number m; how many consecutive numbers from m on are of that kind
--                                  (reach_by)
--   run_at, stretch_at f n ..      the first run, and the first i runs, of the k numbers from m on
--   item_runs_at, runs_at f n is   the runs of an item, at most three; the runs of all items
--   add rs q, add_all              one more run at the end, joined to the last if that continues into it (merged)
pub mod Entering
pub mod Laws
pub mod Lent
use Rattle.std.specs.Prelude.{cond, List, [], ◌∷◌, ◌++◌, ℕ, zero, suc, ◌+◌, ◌-◌, ◌^◌, min, ltb}
use Rattle.rules_numbers.specs.Modular.{seqs, plus, dist}
use Rattle.loss_words.specs.declared.runs.Kind.{Kind}
use Rattle.loss_words.specs.declared.runs.Kind.TheVariants as kinds
use Rattle.rules.specs.Losses.{Item, LossKind, Added, Ignored, Dropped, LossRun, kind_by, end_of, meets}

abbrev pub code_of : LossKind → ℕ
code_of Added = 1
code_of Ignored = 2
code_of Dropped = 3

abbrev pub word_of : Kind → ℕ
word_of kinds.Added = 1
word_of kinds.Ignored = 2
word_of kinds.Dropped = 3

unfoldable pub words_for : List LossRun → List ℕ
words_for [] = []
words_for (r ∷ rs) = code_of r.kind ∷ r.first ∷ end_of r ∷ words_for rs

unfoldable pub kind_at : ℕ → ℕ → ℕ → LossKind
kind_at f n m = kind_by (ltb (dist seqs f m) n) (ltb (dist seqs (plus seqs f n) m) (2 ^ 30))

unfoldable pub reach_by : ℕ → ℕ → ℕ → LossKind → ℕ
reach_by f n m Added = n - dist seqs f m
reach_by f n m Ignored = 2 ^ 30 - dist seqs (plus seqs f n) m
reach_by f n m Dropped = 2 ^ 31 - dist seqs f m

abbrev pub reach_at : ℕ → ℕ → ℕ → ℕ
reach_at f n m = reach_by f n m (kind_at f n m)

-- the first run of k numbers from m on
abbrev pub run_at : ℕ → ℕ → ℕ → ℕ → LossRun
run_at f n m k = record { kind = kind_at f n m; first = m; count = min k (reach_at f n m) }

unfoldable pub stretch_at : ℕ → ℕ → ℕ → ℕ → ℕ → List LossRun
stretch_at f n zero m k = []
stretch_at f n (suc i) m zero = []
stretch_at f n (suc i) m (suc k) =
    let r = run_at f n m (suc k) in
    r ∷ stretch_at f n i (plus seqs m r.count) (suc k - r.count)

unfoldable pub item_runs_at : ℕ → ℕ → Item → List LossRun
item_runs_at f n i = stretch_at f n 3 i.first (suc (dist seqs i.first i.last))

unfoldable pub runs_at : ℕ → ℕ → List Item → List LossRun
runs_at f n [] = []
runs_at f n (i ∷ is) = item_runs_at f n i ++ runs_at f n is

abbrev pub merged : LossRun → LossRun → LossRun
merged r q = record { kind = r.kind; first = r.first; count = r.count + q.count }

unfoldable pub add : List LossRun → LossRun → List LossRun
add [] q = q ∷ []
add (r ∷ []) q = cond (meets r q) (merged r q ∷ []) (r ∷ q ∷ [])
add (r ∷ p ∷ rs) q = r ∷ add (p ∷ rs) q

unfoldable pub add_all : List LossRun → List LossRun → List LossRun
add_all rs [] = rs
add_all rs (q ∷ qs) = add_all (add rs q) qs
