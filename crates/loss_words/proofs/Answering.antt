-- The invariant of `write_runs`: the runs written so far, joined with those of the items from index `at` on, are the
-- answer. Since the report is well-formed, a turn reads an item and adds its runs.
use mathlib.Core.Path.{◌≡◌, refl, sym, ap, ◌∙◌}
use mathlib.Core.List.{List, [], ◌∷◌}
use Prim.Native.Nat.{ℕ, ◌+◌, ◌*◌, ◌≤◌, ◌<◌, zero-le}
use native.Mathlib.Decide.{dec_lt}
use native.Mathlib.Omega.{arith}
use lib.ListN.{length, drop, drop_of_length-le}
use Rattle.rules.specs.Losses.{Item, Words, items, items_of, bad, before, parse, words_of, LossRun, joined}
use Rattle.loss_words.specs.Words.{step_at, width_of, item_of}
use Rattle.loss_words.specs.Words.Laws.{parse-none, parse-some, words_many, words-few}
use Rattle.loss_words.specs.declared.runs.Runs.{Runs}
use Rattle.loss_words.specs.Runs.{item_runs_at, runs_at, add_all}
use Rattle.loss_words.specs.Runs.Laws.{add_all-joined, add_all-append}
use Rattle.loss_words.specs.Runs.Lent.{Holds, HasRoom, SameList, Written, Accepted, holds-none}

-- the items behind the first
behind : (i : Item) (w : Words) (is : List Item) → before i w ≡ items is → (w ≡ items (items_of w)) × (is ≡ i ∷ items_of w)
unfolding before
behind i (items js) is e = (refl, cc)
behind i (bad index) is e = absurd (let z : ◌≡◌ {A = ℕ} 0 1 = cc in omega arith)

-- a report that is well-formed has at most 512 words
short : (ws : List ℕ) → words_of ws ≡ items (items_of (words_of ws)) → words_of ws ≡ parse 0 ws
short ws fine = go (dec_lt 512 (length ws))
  where
    go : Dec (512 < length ws) → words_of ws ≡ parse 0 ws
    go (yes h) =
        let wrong : bad 512 ≡ items (items_of (words_of ws)) = sym (words_many ws h) ∙ fine in
        absurd (let z : ◌≡◌ {A = ℕ} 0 1 = cc in omega arith)
    go (no h) = words-few ws (omega arith)

-- with front f and n packets sent: the runs so far are in `left`, and the words from index `at` on are to come
pub record Answering (ws : List ℕ) (f n : ℕ) (given : Runs) (answer : List LossRun) (at : ℕ) (left : Runs) : Type 0 where
  pub within : at ≤ length ws
  pub fine : parse at (drop at ws) ≡ items (items_of (parse at (drop at ws)))
  pub room : 3 * left.len + 9 * length (items_of (parse at (drop at ws))) ≤ length given.list.now
  pub same : SameList given left
  pub runs : List LossRun
  pub holds : Holds left.len runs given.list.now left.list.now
  pub rest : add_all runs (runs_at f n (items_of (parse at (drop at ws)))) ≡ answer

pub answering_none : (ws : List ℕ) (f n : ℕ) (given : Runs) → given.len ≡ 0 → Accepted ws given.list.now
    → Answering ws f n given (joined (runs_at f n (items_of (words_of ws)))) 0 given
answering_none ws f n given none A =
    let is : words_of ws ≡ parse 0 ws = short ws A.fine in record {
      within = zero-le;
      fine = rw is at A.fine;
      room = omega (arith, none, rw is at A.room);
      same = record { name = refl; long = refl };
      runs = [];
      holds = rw none (holds-none given.list.now);
      rest = rw is (add_all-joined (runs_at f n (items_of (parse 0 ws))));
    }

module _ (ws : List ℕ) (f n : ℕ) (given : Runs) (answer : List LossRun) (at : ℕ) (left : Runs) (A : Answering ws f n given answer at left) where
  module _ (inside : at < length ws) where
    pub some : 0 < width_of (step_at ws at)
    some = go (dec_lt 0 (width_of (step_at ws at)))
      where
        go : Dec (0 < width_of (step_at ws at)) → 0 < width_of (step_at ws at)
        go (yes h) = h
        go (no h) =
            let wrong : bad at ≡ items (items_of (parse at (drop at ws))) = sym (parse-none ws at inside (omega arith)) ∙ A.fine in
            absurd (let z : ◌≡◌ {A = ℕ} 0 1 = cc in omega arith)

    pub next : ℕ
    next = at + width_of (step_at ws at)

    split : (parse next (drop next ws) ≡ items (items_of (parse next (drop next ws))))
        × (items_of (parse at (drop at ws)) ≡ item_of (step_at ws at) ∷ items_of (parse next (drop next ws)))
    unfolding next
    split = behind (item_of (step_at ws at)) (parse next (drop next ws)) (items_of (parse at (drop at ws))) (sym (parse-some ws at some).0 ∙ A.fine)

    pub answering_room : HasRoom 3 left
    answering_room = omega (arith, A.room, A.same.long, ap length split.1)

    pub answering_within : at + width_of (step_at ws at) ≤ length ws
    answering_within = (parse-some ws at some).1

    pub answering_step : (after : Runs) → Written left (item_runs_at f n (item_of (step_at ws at))) after
        → Answering ws f n given answer (at + width_of (step_at ws at)) after
    unfolding next runs_at
    answering_step after W = record {
      within = answering_within;
      fine = split.0;
      room = omega (arith, A.room, W.few, ap length split.1);
      same = record { name = W.same.name ∙ A.same.name; long = W.same.long ∙ A.same.long };
      runs = add_all A.runs (item_runs_at f n (item_of (step_at ws at)));
      holds = W.holds A.runs given.list.now A.holds;
      rest = sym (add_all-append A.runs (item_runs_at f n (item_of (step_at ws at))) (runs_at f n (items_of (parse next (drop next ws)))))
          ∙ ap (λ (is : List Item). add_all A.runs (runs_at f n is)) (sym split.1)
          ∙ A.rest;
    }

  pub answering_all : length ws ≤ at → Holds left.len answer given.list.now left.list.now
  unfolding parse runs_at add_all
  answering_all h =
      let all : answer ≡ A.runs =
      sym A.rest ∙ ap (λ (d : List ℕ). add_all A.runs (runs_at f n (items_of (parse at d)))) (drop_of_length-le ws h) in
      rw all A.holds
