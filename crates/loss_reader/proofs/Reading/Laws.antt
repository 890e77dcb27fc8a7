-- Reading from one place to the next gives the items of `parse` of the rules, in order. Document 01: "The decompressed
-- loss iterator becomes a reader that holds the lent words and its place."
--   moved-fits    the place after a reading is below any bound on the place before it and the number of words
--   moved_none    where there is no item, the reader stays
--   reads-parse   enough readings for the words left give the parse of those words
--   reads_all     from the first word, they give the parse of the whole report
--   reads-words   and, for at most 512 words, `words_of` of the rules
use Rattle.std.specs.Prelude.{◌≡◌, refl, Bool, true, false, cond, List, [], ◌∷◌, ℕ, zero, suc, ◌+◌, ◌-◌, ◌^◌, ◌≤◌, ◌<◌, ltb, length, drop}
use Rattle.std.proofs.Common.{sym, ap, ◌∙◌, arith, drop_of_length-le}
use Rattle.std.specs.Borrow.{Bor}
use Rattle.rules.specs.Losses.{Words, items, bad, before, is_range, parse, words_of}
use Rattle.loss_words.specs.Words.{step, step_at, width_of, item_of}
use Rattle.loss_words.specs.Words.Laws.{parse-some, words-few}
use Rattle.loss_words.specs.declared.Step.{Step}
use Rattle.loss_words.specs.declared.Step.TheVariants.{One, Range, Bad, End}
use Rattle.loss_reader.specs.declared.LossReader.{LossReader}
use Rattle.loss_reader.specs.Reading.{start, here, moved, given, reads}

-- ## The place after a reading

below : (ws : List ℕ) (at n m : ℕ) → at < m → length ws < m → width_of (step_at ws at) ≡ n → at + n < m
below ws at zero m h k e = omega arith
below ws at (suc n) m h k e = omega (arith, e, (parse-some ws at (omega (arith, e))).1)

pub moved-fits : (r : LossReader) (m : ℕ) → r.at < m → length r.words.now < m → (moved r).at < m
moved-fits r m h k = below r.words.now r.at (width_of (here r)) m h k refl

pub moved_none : (r : LossReader) → width_of (here r) ≡ 0 → moved r ≡ r
moved_none r h =
    let e : r.at + width_of (here r) ≡ r.at = omega (arith, h) in
    λ i. record { words = r.words; at = e i }

-- ## What the readings give

given-none : (i : ℕ) (ws : List ℕ) (p : Words) → width_of (step ws) ≡ 0 → given (step ws) i p ≡ parse i ws
unfolding step parse given
given-none i [] p e = refl
given-none i (a ∷ []) p e = go (ltb a (2 ^ 31)) e
  where
    go : (t : Bool) → width_of (cond t (One a) Bad) ≡ 0 → given (cond t (One a) Bad) i p ≡ cond t (items (record { first = a; last = a } ∷ [])) (bad i)
    go true e = absurd (omega arith)
    go false e = refl
given-none i (a ∷ b ∷ ws) p e = go (ltb a (2 ^ 31)) (is_range a b) (parse (suc i) (b ∷ ws)) (parse (2 + i) ws) e
  where
    go : (t r : Bool) (q s : Words) → width_of (cond t (One a) (cond r (Range (a - 2 ^ 31) b) Bad)) ≡ 0
        → given (cond t (One a) (cond r (Range (a - 2 ^ 31) b) Bad)) i p
        ≡ cond t (before (record { first = a; last = a }) q) (cond r (before (record { first = a - 2 ^ 31; last = b }) s) (bad i))
    go true r q s e = absurd (omega arith)
    go false true q s e = absurd (omega arith)
    go false false q s e = refl

given-some : (s : Step) (i : ℕ) (p : Words) → 0 < width_of s → given s i p ≡ before (item_of s) p
unfolding given
given-some (One a) i p h = refl
given-some (Range a b) i p h = refl
given-some Bad i p h = absurd (omega arith)
given-some End i p h = absurd (omega arith)

pub reads-parse : (n : ℕ) (r : LossReader) → length r.words.now ≤ r.at + n → reads n r ≡ parse r.at (drop r.at r.words.now)
unfolding reads parse
reads-parse zero r h =
    let k : length r.words.now ≤ r.at = omega arith in
    rw (drop_of_length-le r.words.now k)
reads-parse (suc n) r h = go (width_of (here r)) refl (reads-parse n (moved r))
  where
    go : (w : ℕ) → width_of (here r) ≡ w
        → (length r.words.now ≤ (moved r).at + n → reads n (moved r) ≡ parse (moved r).at (drop (moved r).at r.words.now))
        → given (here r) r.at (reads n (moved r)) ≡ parse r.at (drop r.at r.words.now)
    go zero e more = given-none r.at (drop r.at r.words.now) (reads n (moved r)) e
    go (suc w) e more =
        let some : 0 < width_of (here r) = omega (arith, e) in
        given-some (here r) r.at (reads n (moved r)) some ∙ ap (before (item_of (here r))) (more (omega (arith, some))) ∙ sym (parse-some r.words.now r.at some).0

pub reads_all : (ws : Bor (List ℕ)) → reads (length ws.now) (start ws) ≡ parse 0 ws.now
reads_all ws = reads-parse (length ws.now) (start ws) (omega arith)

pub reads-words : (ws : Bor (List ℕ)) → length ws.now ≤ 512 → reads (length ws.now) (start ws) ≡ words_of ws.now
reads-words ws h = reads_all ws ∙ sym (words-few ws.now h)
