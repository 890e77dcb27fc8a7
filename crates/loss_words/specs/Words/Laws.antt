-- What the code uses of a report's words, and how `parse` of the rules goes from one item to the next.
--   step_end, step-one, step-alone, step-high, step-far, step_range   what is at an index, from the code's tests
--   parse-none, parse-some                   the parse where there is no item, and where there is one
--   judged_from n w                          `judged` after n items
--   Read ws at n                             n items come before index `at`: the invariant of `judge`
--   read_none, read_on, read_bad, read_all   at the start, after an item, at a bad one, at the end
--   words_many, words-few                    over 512 words, and up to 512
use Rattle.std.specs.Prelude.{◌≡◌, refl, Bool, true, cond, ℕ, suc, ◌+◌, ◌-◌, ◌^◌, ◌≤◌, ◌<◌, ltb, length, drop, get_or, Result, Ok, Err}
use Rattle.std.proofs.Common.{sym, ◌∙◌, add-one, drop_of_length-le, length-drop, drop-cons, drop-drop}
use Rattle.std.proofs.Math.Path.{ap}
use Rattle.std.proofs.Math.Bool.{false}
use mathlib.Core.List.{List, [], ◌∷◌}
use native.Mathlib.Omega.{arith}
use borrow.Author.Tests.{lt-ltb, le-ltb}
use Rattle.rules_numbers.specs.Modular.{seqs, dist}
use Rattle.rules_theorems.specs.Laws.Numbers.{distance-is-dist}
use Rattle.rules.specs.Losses.{Item, Words, items, bad, before, is_range, parse, words_of}
use Rattle.loss_words.specs.declared.Step.TheVariants.{One, Range, Bad, End}
use Rattle.rules_refusals.specs.declared.Refusal.{Refusal}
use Rattle.rules_refusals.specs.declared.Refusal.TheVariants.{BadNak}
use Rattle.loss_words.specs.Words.{step, step_at, width_of, item_of, judged}

-- ## What is at an index

module _ (ws : List ℕ) (at : ℕ) where
  pub step_end : length ws ≤ at → step_at ws at ≡ End
  unfolding step
  step_end h = rw (drop_of_length-le ws h)

  module _ (inside : at < length ws) where
    abbrev a : ℕ
    a = get_or ws at 0

    abbrev b : ℕ
    b = get_or ws (at + 1) 0

    first : drop at ws ≡ a ∷ drop (at + 1) ws
    first = rw (add-one at) (drop-cons ws at 0 inside)

    alone : length ws ≤ at + 1 → drop at ws ≡ a ∷ []
    alone h = first ∙ ap (λ (l : List ℕ). a ∷ l) (drop_of_length-le ws h)

    two : at + 1 < length ws → drop at ws ≡ a ∷ b ∷ drop (at + 2) ws
    two h =
        let e : suc (at + 1) ≡ at + 2 = omega arith in
        first ∙ ap (λ (l : List ℕ). a ∷ l) (drop-cons ws (at + 1) 0 h ∙ ap (λ (n : ℕ). b ∷ drop n ws) e)

    pub step-alone : 2 ^ 31 ≤ a → length ws ≤ at + 1 → step_at ws at ≡ Bad
    unfolding step
    step-alone h k = rw (alone k, le-ltb a (2 ^ 31) h)

    pub step-one : a < 2 ^ 31 → step_at ws at ≡ One a
    unfolding step
    step-one h = rw first (go (drop (at + 1) ws))
      where
        go : (l : List ℕ) → step (a ∷ l) ≡ One a
        go [] = rw (lt-ltb a (2 ^ 31) h)
        go (x ∷ l) = rw (lt-ltb a (2 ^ 31) h)

    module _ (high : 2 ^ 31 ≤ a) (more : at + 1 < length ws) where
      by_range : (t : Bool) → is_range a b ≡ t → step_at ws at ≡ cond t (Range (a - 2 ^ 31) b) Bad
      unfolding step
      by_range t e = rw (two more, le-ltb a (2 ^ 31) high, e)

      pub step-high : 2 ^ 31 ≤ b → step_at ws at ≡ Bad
      unfolding is_range
      step-high h = by_range false (rw (le-ltb b (2 ^ 31) h))

      module _ (word : a < 2 ^ 32) (number : b < 2 ^ 31) where
        is_range_test : is_range a b ≡ ltb (dist seqs (a - 2 ^ 31) b) (2 ^ 30)
        unfolding is_range
        is_range_test = rw (lt-ltb b (2 ^ 31) number, distance-is-dist (a - 2 ^ 31) b (omega arith) number)

        pub step-far : 2 ^ 30 ≤ dist seqs (a - 2 ^ 31) b → step_at ws at ≡ Bad
        step-far h = by_range false (is_range_test ∙ le-ltb (dist seqs (a - 2 ^ 31) b) (2 ^ 30) h)

        pub step_range : dist seqs (a - 2 ^ 31) b < 2 ^ 30 → step_at ws at ≡ Range (a - 2 ^ 31) b
        step_range h = by_range true (is_range_test ∙ lt-ltb (dist seqs (a - 2 ^ 31) b) (2 ^ 30) h)

-- ## From one item to the next

none : (i : ℕ) (ws : List ℕ) → 0 < length ws → width_of (step ws) ≡ 0 → parse i ws ≡ bad i
unfolding step parse
none i [] h e = absurd (omega arith)
none i (a ∷ []) h e = go (ltb a (2 ^ 31)) e
  where
    go : (t : Bool) → width_of (cond t (One a) Bad) ≡ 0 → cond t (items (record { first = a; last = a } ∷ [])) (bad i) ≡ bad i
    go true e = absurd (omega arith)
    go false e = refl
none i (a ∷ b ∷ ws) h e = go (ltb a (2 ^ 31)) (is_range a b) (parse (suc i) (b ∷ ws)) (parse (2 + i) ws) e
  where
    go : (t r : Bool) (p q : Words) → width_of (cond t (One a) (cond r (Range (a - 2 ^ 31) b) Bad)) ≡ 0
        → cond t (before (record { first = a; last = a }) p) (cond r (before (record { first = a - 2 ^ 31; last = b }) q) (bad i)) ≡ bad i
    go true r p q e = absurd (omega arith)
    go false true p q e = absurd (omega arith)
    go false false p q e = refl

some : (i : ℕ) (ws : List ℕ) → 0 < width_of (step ws)
    → (parse i ws ≡ before (item_of (step ws)) (parse (i + width_of (step ws)) (drop (width_of (step ws)) ws))) × (width_of (step ws) ≤ length ws)
unfolding step parse before
some i [] h = absurd (omega arith)
some i (a ∷ []) h = go (ltb a (2 ^ 31)) h
  where
    go : (t : Bool) → 0 < width_of (cond t (One a) Bad)
        → (cond t (items (record { first = a; last = a } ∷ [])) (bad i)
        ≡ before (item_of (cond t (One a) Bad)) (parse (i + width_of (cond t (One a) Bad)) (drop (width_of (cond t (One a) Bad)) (a ∷ []))))
        × (width_of (cond t (One a) Bad) ≤ 1)
    go true h = (refl, omega arith)
    go false h = absurd (omega arith)
some i (a ∷ b ∷ ws) h = go (ltb a (2 ^ 31)) (is_range a b) h
  where
    go : (t r : Bool) → 0 < width_of (cond t (One a) (cond r (Range (a - 2 ^ 31) b) Bad))
        → (cond t (before (record { first = a; last = a }) (parse (suc i) (b ∷ ws))) (cond r (before (record { first = a - 2 ^ 31; last = b }) (parse (2 + i) ws)) (bad i))
        ≡ before (item_of (cond t (One a) (cond r (Range (a - 2 ^ 31) b) Bad)))
        (parse (i + width_of (cond t (One a) (cond r (Range (a - 2 ^ 31) b) Bad))) (drop (width_of (cond t (One a) (cond r (Range (a - 2 ^ 31) b) Bad))) (a ∷ b ∷ ws))))
        × (width_of (cond t (One a) (cond r (Range (a - 2 ^ 31) b) Bad)) ≤ suc (suc (length ws)))
    go true r h = (rw (add-one i), omega arith)
    go false true h = (let e : 2 + i ≡ i + 2 = omega arith in rw e, omega arith)
    go false false h = absurd (omega arith)

module _ (ws : List ℕ) (at : ℕ) where
  pub parse-none : at < length ws → width_of (step_at ws at) ≡ 0 → parse at (drop at ws) ≡ bad at
  parse-none h e = none at (drop at ws) (rw length-drop (omega arith)) e

  pub parse-some : 0 < width_of (step_at ws at)
      → (parse at (drop at ws) ≡ before (item_of (step_at ws at)) (parse (at + width_of (step_at ws at)) (drop (at + width_of (step_at ws at)) ws)))
      × (at + width_of (step_at ws at) ≤ length ws)
  parse-some h =
      let s = some at (drop at ws) h in
      (rw (← drop-drop (width_of (step_at ws at)) at ws) s.0, omega (arith, rw length-drop at s.1))

-- ## Counting the items

abbrev pub judged_from : ℕ → Words → Result ℕ Refusal
judged_from n (items is) = Ok (n + length is)
judged_from n (bad index) = Err (BadNak index)

judged-none : (w : Words) → judged_from 0 w ≡ judged w
judged-none (items is) = let e : 0 + length is ≡ length is = omega arith in rw e
judged-none (bad index) = refl

judged-before : (n : ℕ) (i : Item) (w : Words) → judged_from n (before i w) ≡ judged_from (n + 1) w
unfolding before
judged-before n i (items is) = let e : n + suc (length is) ≡ n + 1 + length is = omega arith in rw e
judged-before n i (bad index) = refl

pub record Read (ws : List ℕ) (at n : ℕ) : Type 0 where
  pub within : at ≤ length ws
  pub few : n ≤ at
  pub rest : judged_from n (parse at (drop at ws)) ≡ judged (parse 0 ws)

pub read_none : (ws : List ℕ) → Read ws 0 0
read_none ws = record { within = omega arith; few = omega arith; rest = judged-none (parse 0 ws) }

module _ (ws : List ℕ) (at n : ℕ) (R : Read ws at n) where
  pub read_on : 0 < width_of (step_at ws at) → Read ws (at + width_of (step_at ws at)) (n + 1)
  read_on h =
      let p = parse-some ws at h in
      record {
        within = p.1;
        few = omega (arith, R.few);
        rest = sym (judged-before n (item_of (step_at ws at)) (parse (at + width_of (step_at ws at)) (drop (at + width_of (step_at ws at)) ws))) ∙ ap (judged_from n) (sym p.0) ∙ R.rest;
      }

  pub read_bad : at < length ws → width_of (step_at ws at) ≡ 0 → Err (BadNak at) ≡ judged (parse 0 ws)
  read_bad h e = ap (judged_from n) (sym (parse-none ws at h e)) ∙ R.rest

  pub read_all : length ws ≤ at → Ok n ≡ judged (parse 0 ws)
  unfolding parse
  read_all h =
      let e : n + 0 ≡ n = omega arith in
      ap Ok (sym e) ∙ ap (λ (l : List ℕ). judged_from n (parse at l)) (sym (drop_of_length-le ws h)) ∙ R.rest

pub words_many : (ws : List ℕ) → 512 < length ws → words_of ws ≡ bad 512
unfolding words_of
words_many ws h = rw (lt-ltb 512 (length ws) h)

pub words-few : (ws : List ℕ) → length ws ≤ 512 → words_of ws ≡ parse 0 ws
unfolding words_of
words-few ws h = rw (le-ltb 512 (length ws) h)
