-- A loss report on the books is the report of the rules, for every sender that the books represent.
--   runs_stand             what enters the area represents what enters the list of the rules
--   runs_are               the runs of the answer are those of the rules
--   lost-fits              the area has room for all that enters
--   stands-reported        the books afterwards
--   Answers, nak_refines   the call answers and leaves what the rules say
use Rattle.std.specs.Prelude.{◌≡◌, ℕ, ◌+◌, ◌*◌, ◌^◌, ◌≤◌, ◌<◌, length, get_or, Ok}
use Rattle.std.proofs.Math.Path.{refl}
use mathlib.Core.List.{List, [], ◌∷◌, ◌++◌}
use Rattle.std.proofs.Common.{not-suc-le-zero, le-ltb}
use native.Mathlib.Omega.{arith}
use Rattle.laws.specs.Ascending.{ascends-few}
use Rattle.rules_numbers.specs.Modular.{seqs, dist}
use Rattle.rules.specs.Settings.{Settings}
use Rattle.rules.specs.Numbers.{wire, distance}
use Rattle.rules_theorems.specs.Laws.Numbers.{wire-distance}
use Rattle.rules.specs.Sender.{Sender, sent_of}
use Rattle.rules_theorems.specs.Laws.BookRules.{Kept, facts_kept}
use Rattle.rules.specs.Refusals.{words_verdict, nak_verdict}
use Rattle.rules.specs.Calls as calls
use Rattle.rules.specs.Losses as rules
use Rattle.rules.specs.Losses.{Item, Words, items, items_of, bad, LossKind, Added, Ignored, Dropped, LossRun, words_of, runs_of, joined, end_of, enter_by, enter_all}
use Rattle.rules_theorems.proofs.Entering as entering
use Rattle.loss_list.specs.LossList.{over}
use Rattle.loss_list.specs.LossList.Laws.{take-over, length_over}
use Rattle.loss_list.specs.LossList.Stands as losses
use Rattle.loss_list.specs.LossList.Stands.{stands-length, stands-entered, stands-grows}
use Rattle.loss_words.specs.Runs.{code_of, words_for}
use Rattle.loss_words.specs.Runs.Laws.{words-numbers, answer-is}
use Rattle.loss_words.specs.Runs.Lent.{Holds}
use Rattle.loss_words.specs.Runs.Entering.{Inside, runs-inside, joined-inside, enter_all-joined, count-is}
use Rattle.buffer.specs.State.{State, state}
use Rattle.buffer.specs.State.Stands.{Stands}
use Rattle.buffer.specs.State.Facts.{stands_facts}
use Rattle.buffer_nak.specs.Report.{with_lost, runs_for, enter_run, enter_runs, lost_after, Left, add}
use Rattle.buffer_nak.specs.Report.Laws.{Growing, Enters, growing_first}

-- ## The runs

module _ (s : Sender) (near : sent_of s < 2 ^ 31) where
  run-stands : (k : LossKind) (first count : ℕ) → first < 2 ^ 31 → (k ≡ Added → distance (wire s.front) first + count ≤ sent_of s)
      → {lost xs : List ℕ} → losses.Stands lost s.front xs
      → losses.Stands (enter_by k (s.front + distance (wire s.front) first) count lost) s.front
      (enter_run (wire s.front) (code_of k) first (wire (first + count)) xs)
  unfolding enter_by enter_run
  run-stands Added first count h i {lost} {xs} S =
      let d : dist seqs first (wire (first + count)) ≡ count = count-is (record { kind = Added; first = first; count = count }) (omega (arith, i refl)) in
      let at : wire (s.front + distance (wire s.front) first) ≡ first = wire-distance s.front first h in
      rw d
      (rw at at
      (stands-entered s.front (s.front + distance (wire s.front) first) count (omega arith) (omega (arith, i refl)) S))
  run-stands Ignored first count h i S = S
  run-stands Dropped first count h i S = S

  -- the list doesn't become shorter
  run-grows : (k : LossKind) (first count : ℕ) → first < 2 ^ 31 → (k ≡ Added → distance (wire s.front) first + count ≤ sent_of s)
      → {lost xs : List ℕ} → losses.Stands lost s.front xs → length xs ≤ length (enter_run (wire s.front) (code_of k) first (wire (first + count)) xs)
  unfolding enter_run
  run-grows Added first count h i {lost} {xs} S =
      let d : dist seqs first (wire (first + count)) ≡ count = count-is (record { kind = Added; first = first; count = count }) (omega (arith, i refl)) in
      let at : wire (s.front + distance (wire s.front) first) ≡ first = wire-distance s.front first h in
      rw d
      (rw at at
      (stands-grows s.front (s.front + distance (wire s.front) first) count (omega arith) (omega (arith, i refl)) S))
  run-grows Ignored first count h i S = omega arith
  run-grows Dropped first count h i S = omega arith

  runs_grow : (rs : List LossRun) → Inside s rs → {lost xs : List ℕ} → losses.Stands lost s.front xs
      → (t : List ℕ) → Growing (wire s.front) (words_for rs ++ t) (length rs) xs
  unfolding words_for
  runs_grow [] a S t = λ i h. absurd (not-suc-le-zero h)
  runs_grow (r ∷ rs) a {lost} {xs} S t =
      growing_first (wire s.front) (code_of r.kind ∷ r.first ∷ end_of r ∷ (words_for rs ++ t)) (length rs) xs
      (run-grows r.kind r.first r.count a.0 a.1 S) (runs_grow rs a.2 (run-stands r.kind r.first r.count a.0 a.1 S) t)

  pub runs_stand : (rs : List LossRun) → Inside s rs → {lost xs : List ℕ} → losses.Stands lost s.front xs
      → losses.Stands (enter_all s rs lost) s.front (enter_runs (wire s.front) rs xs)
  unfolding enter_all enter_runs
  runs_stand [] a S = S
  runs_stand (r ∷ rs) a S = runs_stand rs a.2 (run-stands r.kind r.first r.count a.0 a.1 S)

-- ## The report

module _ {c : Settings} {st : State} {s : Sender} (S : Stands c st s) (K : Kept c s) (ws : List ℕ) (words : (j : ℕ) → get_or ws j 0 < 2 ^ 32) where
  abbrev reported : List Item
  reported = items_of (words_of ws)

  sent_is : st.books.sent ≡ sent_of s
  sent_is = omega (arith, S.next)

  near : sent_of s < 2 ^ 31
  near = let f = stands_facts S K in omega (arith, sent_is, f.sent, f.placed.len, f.placed.cap)

  inside : Inside s (runs_of s reported)
  inside = runs-inside s reported (words-numbers ws words)

  pub runs_are : runs_for st.books ws ≡ joined (runs_of s reported)
  runs_are = answer-is (record { front = S.front; sent = sent_is; ordered = K.good.low }) ws words

  lost-stands : losses.Stands (enter_all s (runs_of s reported) s.lost) s.front (lost_after st.books ws st.lost)
  lost-stands =
      rw (runs_are, S.front, ← enter_all-joined s near (runs_of s reported) s.lost inside)
      (runs_stand s near (joined (runs_of s reported)) (joined-inside s near (runs_of s reported) inside) S.lost)

  pub lost-fits : Enters st.books ws st.lost
  lost-fits =
      let f = stands_facts S K in
      let ascends = entering.enter_all-ascends s (runs_of s reported) s.lost K.good.low (entering.runs-inside s reported) K.good.lost in
      let few = ascends-few s.front s.next (enter_all s (runs_of s reported) s.lost) ascends in
      record {
        inside = f.inside;
        grows = rw (runs_are, S.front) (runs_grow s near (joined (runs_of s reported)) (joined-inside s near (runs_of s reported) inside) S.lost);
        room = omega (arith, stands-length lost-stands, few, sent_is, f.sent, f.placed.len, f.room);
      }

  pub stands-reported :
      Stands c (state (with_lost st.books (length (lost_after st.books ws st.lost))) st.ring (over (lost_after st.books ws st.lost) st.lost))
      (rules.report reported s)
  unfolding rules.report
  stands-reported = record {
    placed = S.placed;
    cap = S.cap;
    room = rw (length_over (lost_after st.books ws st.lost) st.lost lost-fits.room) S.room;
    packets = S.packets;
    places = S.places;
    front = S.front;
    next = S.next;
    count = stands-length lost-stands;
    lost = rw (take-over (lost_after st.books ws st.lost) st.lost) lost-stands;
    bytes = S.bytes;
    others = S.others;
    turns = S.turns;
    pushed = S.pushed;
  }

-- the outcome l of the call on st and out is the answer a of the rules
pub record Answers (c : Settings) (st : State) (out : List ℕ) (l : Left) (a : calls.Answer) : Type 0 where
  pub verdict : a.verdict ≡ Ok tt
  pub runs : List LossRun
  pub said : a.said ≡ calls.Reported runs
  pub holds : Holds l.answer.runs runs out l.out
  pub stands : Stands c (state l.answer.buffer st.ring l.lost) a.after

-- "Room needed: three per item"
words-fine : (w : Words) (room : ℕ) → w ≡ items (items_of w) → 3 * length (items_of w) ≤ room → words_verdict w room ≡ Ok tt
unfolding words_verdict
words-fine (items is) room e h = rw (le-ltb room (3 * length is) h)
words-fine (bad index) room e h = cc

module _ {c : Settings} {st : State} {s : Sender} (S : Stands c st s) (K : Kept c s) (ws out : List ℕ) (words : (j : ℕ) → get_or ws j 0 < 2 ^ 32)
    (fine : words_of ws ≡ items (items_of (words_of ws))) (room : ℕ) (enough : 3 * length (items_of (words_of ws)) ≤ room) where
  accepted : calls.verdict_of c (calls.nak ws room) s ≡ Ok tt
  unfolding calls.verdict_of nak_verdict
  accepted = rw (facts_kept c s K) (words-fine (words_of ws) room fine enough)

  pub nak_refines : Answers c st out (add st.books ws st.lost out) (calls.answer c (calls.nak ws room) s)
  unfolding add calls.answer calls.answer_by calls.said_by calls.after
  nak_refines = rw accepted (record {
    verdict = refl;
    runs = joined (runs_of s (items_of (words_of ws)));
    said = refl;
    holds = rw (runs_are S K ws words) (record { count = refl; area = refl });
    stands = stands-reported S K ws words;
  })
