-- The invariant of `write_item`: the runs written so far, and those of the numbers left, are the item's runs. A turn
-- writes the first run of the numbers left, as `stretch_at` does.
use mathlib.Core.Path.{◌≡◌, refl, sym, ap, ◌∙◌}
use mathlib.Core.List.{List, [], ◌∷◌}
use Prim.Native.Nat.{ℕ, zero, suc, ◌+◌, ◌-◌, ◌≤◌, ◌<◌, min}
use native.Mathlib.Nat.{not-suc-le-zero}
use native.Mathlib.Numerals.{add-one, sub-one}
use native.Mathlib.Omega.{arith}
use Rattle.rules_numbers.specs.Modular.{seqs, plus, dist}
use Rattle.rules_numbers.specs.Modular.Laws.{plus-is}
use Rattle.rules.specs.Losses.{LossRun, end_of}
use Rattle.loss_words.specs.declared.runs.Runs.{Runs}
use Rattle.loss_words.specs.Runs.{run_at, stretch_at, item_runs_at, add, add_all}
use Rattle.loss_words.specs.Runs.Laws.{Reaches}
use Rattle.loss_words.specs.Runs.Lent.{Holds, SameList, Pushed, Written}

pub item_is : (f n a b : ℕ) → item_runs_at f n (record { first = a; last = b }) ≡ stretch_at f n 3 a (dist seqs a b + 1)
unfolding item_runs_at
item_is f n a b = ap (stretch_at f n 3 a) (sym (add-one (dist seqs a b)))

turn : (f n i m k : ℕ) → 0 < i → 0 < k
    → stretch_at f n i m k ≡ run_at f n m k ∷ stretch_at f n (i - 1) (plus seqs m (run_at f n m k).count) (k - (run_at f n m k).count)
unfolding stretch_at
turn f n zero m k h j = absurd (not-suc-le-zero h)
turn f n (suc i) m zero h j = absurd (not-suc-le-zero j)
turn f n (suc i) m (suc k) h j = rw (sub-one (suc i))

none_left : (f n i m k : ℕ) → k ≡ 0 → stretch_at f n i m k ≡ []
unfolding stretch_at
none_left f n zero m k e = refl
none_left f n (suc i) m k e = rw e

no-turn : (f n i m k : ℕ) → i ≡ 0 → stretch_at f n i m k ≡ []
unfolding stretch_at
no-turn f n i m k e = rw e

-- the list given is to get the runs qs; now it is as in `left`, and the k numbers from m on are to come, in at most i turns
pub record Writing (f n : ℕ) (given : Runs) (qs : List LossRun) (left : Runs) (m k i : ℕ) : Type 0 where
  pub few : left.len + i ≤ given.len + 3
  pub same : SameList given left
  pub holds : (rs : List LossRun) (e : List ℕ) → Holds given.len rs e given.list.now
      → (ps : List LossRun) × Holds left.len ps e left.list.now × (add_all ps (stretch_at f n i m k) ≡ add_all rs qs)

pub writing_none : (f n : ℕ) (given : Runs) (m k : ℕ) → Writing f n given (stretch_at f n 3 m k) given m k 3
writing_none f n given m k = record { few = omega arith; same = record { name = refl; long = refl }; holds = λ rs e H. (rs, H, refl) }

module _ (f n : ℕ) (given : Runs) (qs : List LossRun) (left : Runs) (m k i : ℕ) (W : Writing f n given qs left m k i) where
  pub writing_step : (kind count : ℕ) (next : Runs) → 0 < i → 0 < k → Reaches f n m kind count
      → Pushed left kind m (plus seqs m (min k count)) next → Writing f n given qs next (plus seqs m (min k count)) (k - min k count) (i - 1)
  unfolding add_all
  writing_step kind count next h j R P = record {
    few = omega (arith, W.few, P.few);
    same = record { name = P.same.name ∙ W.same.name; long = P.same.long ∙ W.same.long };
    holds = λ rs e H. (
        let w = W.holds rs e H in
        let q : LossRun = run_at f n m k in
        let end : plus seqs m (min k count) ≡ end_of q = rw R.far (plus-is seqs m q.count) in
        (add w.0 q, P.holds w.0 e q w.1 R.is refl end, rw R.far (ap (add_all w.0) (sym (turn f n i m k h j)) ∙ w.2))
        );
  }

  done : stretch_at f n i m k ≡ [] → Written given qs left
  unfolding add_all
  done none = record {
    few = omega (arith, W.few);
    same = W.same;
    holds = λ rs e H. (
        let w = W.holds rs e H in
        let all : add_all rs qs ≡ w.0 = sym w.2 ∙ ap (add_all w.0) none in
        rw all w.1
        );
  }

  pub writing_all : k < 1 → Written given qs left
  writing_all h = done (none_left f n i m k (omega arith))

  pub writing_end : i ≤ 0 → Written given qs left
  writing_end h = done (no-turn f n i m k (omega arith))
