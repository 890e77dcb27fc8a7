-- What the code uses of a loss report on the books.
--   entered_to f ws k xs                 the list xs with the first k runs of the words ws entered
--   Growing f ws k xs                    none of these runs makes the list shorter
--   Reportable, Readable, Enters         what the code requires; what holds of a report
--   enter-none, added-fits, added-left   one run, as the code enters it
--   entered-longest                      none of these lists is longer than the last
--   growing_first                        a list that grows with the first run, and then with the others, grows with all
--   entered-runs                         the words of runs enter what the runs enter
--   readable, add_done                   the parts of the code make up the whole
use Rattle.std.specs.Prelude.{◌≡◌, refl, ℕ, zero, suc, ◌+◌, ◌*◌, ◌≤◌, ◌<◌, take, drop, get_or}
use Rattle.std.proofs.Common.{sym, ◌∙◌, le_refl, le_trans, arith, length-drop, length-append, take-append-drop, get_or-drop, length-take-le, eq-eqb, ne_eqb}
use Rattle.std.proofs.Math.Path.{ap}
use mathlib.Core.List.{List, [], ◌∷◌, ◌++◌}
use Rattle.std.proofs.Math.Decide.{dec_le}
use Rattle.std.proofs.Math.ListN.{length}
use Rattle.rules_numbers.specs.Modular.{seqs, dist}
use Rattle.rules.specs.Settings.{Settings}
use Rattle.rules.specs.Losses.{LossRun, end_of}
use Rattle.loss_list.specs.LossList.{over, entered}
use Rattle.loss_list.specs.LossList.Laws as list
use Rattle.loss_list.specs.LossList.Laws.{Fits}
use Rattle.loss_words.specs.Runs.{code_of, words_for}
use Rattle.loss_words.specs.Runs.Lent as lent
use Rattle.loss_words.specs.Runs.Lent.{Holds, words-length}
use Rattle.buffer.specs.declared.SendBuffer.{SendBuffer}
use Rattle.buffer.specs.State.{state}
use Rattle.buffer.specs.State.Stands.{Ready}
use Rattle.buffer_nak.specs.Report.{with_lost, runs_for, enter_run, enter_runs, lost_after, left, add}

-- the books of a sender, and a well-formed report with room for its answer
pub record Reportable (b : SendBuffer) (ws lost out : List ℕ) : Type 0 where
  pub settings : Settings
  pub ring : List ℕ
  pub ready : Ready settings (state b ring lost)
  pub accepted : lent.Accepted ws out

-- the first k runs of the words ws, one after the other
unfoldable pub entered_to : ℕ → List ℕ → ℕ → List ℕ → List ℕ
entered_to f ws zero xs = xs
entered_to f ws (suc k) xs = enter_run f (get_or ws (3 * k) 0) (get_or ws (3 * k + 1) 0) (get_or ws (3 * k + 2) 0) (entered_to f ws k xs)

-- no run of the first k makes the list shorter
abbrev pub Growing : ℕ → List ℕ → ℕ → List ℕ → Type 0
Growing f ws k xs = (i : ℕ) → i < k → length (entered_to f ws i xs) ≤ length (entered_to f ws (suc i) xs)

-- the words hold k runs, and the area has room for the numbers that enter
pub record Readable (ws : List ℕ) (k f len : ℕ) (lost : List ℕ) : Type 0 where
  pub whole : 3 * k ≤ length ws
  pub inside : len ≤ length lost
  pub grows : Growing f ws k (take len lost)
  pub room : length (entered_to f ws k (take len lost)) ≤ length lost

-- the same for a report, whatever comes behind its runs
pub record Enters (b : SendBuffer) (ws lost : List ℕ) : Type 0 where
  pub inside : b.lost ≤ length lost
  pub grows : (t : List ℕ) → Growing b.front.0 (words_for (runs_for b ws) ++ t) (length (runs_for b ws)) (take b.lost lost)
  pub room : length (lost_after b ws lost) ≤ length lost

-- ## One run

module _ (f kind first end : ℕ) (xs : List ℕ) where
  enter-added : kind ≡ 1 → enter_run f kind first end xs ≡ entered (dist seqs f) first (dist seqs first end) xs
  unfolding enter_run
  enter-added h = rw (eq-eqb kind 1 h)

  enter-other : (kind ≡ 1 → ⊥) → enter_run f kind first end xs ≡ xs
  unfolding enter_run
  enter-other h = rw (ne_eqb kind 1 h)

-- an Added run, as the code enters it
module _ (f kind first end count len : ℕ) (e : List ℕ) (h : kind ≡ 1) (d : count ≡ dist seqs first end) where
  added_is : enter_run f kind first end (take len e) ≡ entered (dist seqs f) first count (take len e)
  added_is = rw d (enter-added f kind first end (take len e) h)

  pub added-fits : Fits len (enter_run f kind first end (take len e)) e → Fits len (entered (dist seqs f) first count (take len e)) e
  added-fits F = rw added_is at F

  pub added-left : (n : ℕ) (l : List ℕ) → list.Left n l (entered (dist seqs f) first count (take len e)) e → list.Left n l (enter_run f kind first end (take len e)) e
  added-left n l L = rw added_is L

pub enter-none : (f kind first end len : ℕ) (e : List ℕ) → (kind ≡ 1 → ⊥) → len ≤ length e → list.Left len e (enter_run f kind first end (take len e)) e
enter-none f kind first end len e h inside =
    let long : length (take len e) ≡ len = length-take-le len e inside in
    record {
      count = rw (enter-other f kind first end (take len e) h) (sym long);
      area = rw (enter-other f kind first end (take len e) h, long) (sym (take-append-drop len e));
    }

-- ## One run after the other

pub entered-longest : (f : ℕ) (ws : List ℕ) (j k : ℕ) (xs : List ℕ) → Growing f ws k xs → j ≤ k → length (entered_to f ws j xs) ≤ length (entered_to f ws k xs)
entered-longest f ws j zero xs g h = let none : j ≡ 0 = omega arith in rw none (le_refl (length (entered_to f ws 0 xs)))
entered-longest f ws j (suc k) xs g h = go (dec_le j k) (entered-longest f ws j k xs (λ i l. g i (omega arith)))
  where
    go : Dec (j ≤ k) → (j ≤ k → length (entered_to f ws j xs) ≤ length (entered_to f ws k xs)) → length (entered_to f ws j xs) ≤ length (entered_to f ws (suc k) xs)
    go (yes l) ih = le_trans (ih l) (g k (omega arith))
    go (no l) ih = let end : j ≡ suc k = omega arith in rw end (le_refl (length (entered_to f ws (suc k) xs)))

-- the first run of the words, then the others
entered-first : (f : ℕ) (ws : List ℕ) (k : ℕ) (xs : List ℕ)
    → entered_to f ws (suc k) xs ≡ entered_to f (drop 3 ws) k (enter_run f (get_or ws 0 0) (get_or ws 1 0) (get_or ws 2 0) xs)
unfolding entered_to
entered-first f ws zero xs = refl
entered-first f ws (suc k) xs =
    let a : 3 * suc k ≡ 3 + 3 * k = omega arith in
    let b : 3 * suc k + 1 ≡ 3 + (3 * k + 1) = omega arith in
    let d : 3 * suc k + 2 ≡ 3 + (3 * k + 2) = omega arith in
    rw (get_or-drop 3 ws (3 * k) 0, get_or-drop 3 ws (3 * k + 1) 0, get_or-drop 3 ws (3 * k + 2) 0, ← a, ← b, ← d)
    (ap (enter_run f (get_or ws (3 * suc k) 0) (get_or ws (3 * suc k + 1) 0) (get_or ws (3 * suc k + 2) 0)) (entered-first f ws k xs))

module _ (f : ℕ) (ws : List ℕ) (k : ℕ) (xs : List ℕ) where
  abbrev one : List ℕ
  one = enter_run f (get_or ws 0 0) (get_or ws 1 0) (get_or ws 2 0) xs

  grows-once : length xs ≤ length one → length (entered_to f ws 0 xs) ≤ length (entered_to f ws 1 xs)
  unfolding entered_to
  grows-once h = h

  pub growing_first : length xs ≤ length one → Growing f (drop 3 ws) k one → Growing f ws (suc k) xs
  growing_first h g zero l = grows-once h
  growing_first h g (suc i) l = rw (entered-first f ws i xs, entered-first f ws (suc i) xs) (g i (omega arith))

pub entered-runs : (f : ℕ) (rs : List LossRun) (t xs : List ℕ) → entered_to f (words_for rs ++ t) (length rs) xs ≡ enter_runs f rs xs
unfolding entered_to enter_runs words_for
entered-runs f [] t xs = refl
entered-runs f (r ∷ rs) t xs =
    entered-first f (code_of r.kind ∷ r.first ∷ end_of r ∷ (words_for rs ++ t)) (length rs) xs
    ∙ entered-runs f rs t (enter_run f (code_of r.kind) r.first (end_of r) xs)

module _ (b : SendBuffer) (ws lost out : List ℕ) (n : ℕ) (l : List ℕ) (H : Holds n (runs_for b ws) out l) where
  entered-is : entered_to b.front.0 l n (take b.lost lost) ≡ lost_after b ws lost
  entered-is = rw (H.count, H.area) (entered-runs b.front.0 (runs_for b ws) (drop (length (words_for (runs_for b ws))) out) (take b.lost lost))

  pub readable : Enters b ws lost → Readable l n b.front.0 b.lost lost
  readable E = record {
    whole = rw (H.count, H.area) (simp (length-append, length-drop) (omega (arith, words-length (runs_for b ws))));
    inside = E.inside;
    grows = rw (H.count, H.area) (E.grows (drop (length (words_for (runs_for b ws))) out));
    room = rw entered-is E.room;
  }

  pub add_done : (m : ℕ) (after : List ℕ) (r : SendBuffer) → list.Left m after (entered_to b.front.0 l n (take b.lost lost)) lost → r ≡ with_lost b m
      → left (record { buffer = r; runs = n }) after l ≡ add b ws lost out
  unfolding add
  add_done m after r L e =
      let count : m ≡ length (lost_after b ws lost) = L.count ∙ ap length entered-is in
      let area : after ≡ over (lost_after b ws lost) lost = L.area ∙ ap (λ (xs : List ℕ). over xs lost) entered-is in
      rw (e, count, area, H.count, H.area)
