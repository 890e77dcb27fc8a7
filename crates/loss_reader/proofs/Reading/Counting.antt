-- Counting the items that a reader passes. Document 01, "Loss words": "Room needed: three per item."
--   counts-items             the count of a well-formed report is the number of its items
--   Turn s, standing         a turn of the count: n items are passed, `left` readings suffice for the rest; its reader
--   turn-first, turn_on, turn-on-less, turn-ends
--                            the first turn, the next one after an item, with fewer readings left, and the last, where
--                            there is no item
--   turn-within, turn-fits   the count, and the next one, are at most the number of words
--   some_left, counts-on     at an item, a reading is left and the count is one more than the rest
use Rattle.std.specs.Prelude.{◌≡◌, refl, List, ℕ, zero, suc, ◌+◌, ◌-◌, ◌≤◌, ◌<◌, length}
use Rattle.std.proofs.Common.{sym, ap, ◌∙◌, arith}
use Rattle.std.specs.Borrow.{Bor}
use Rattle.rules.specs.Losses.{Item, Words, items, bad, before, parse}
use Rattle.loss_words.specs.Words.{width_of, item_of}
use Rattle.loss_words.specs.Words.Laws.{parse-some}
use Rattle.loss_words.specs.declared.Step.{Step}
use Rattle.loss_words.specs.declared.Step.TheVariants.{One, Range, Bad, End}
use Rattle.loss_reader.specs.declared.LossReader.{LossReader}
use Rattle.loss_reader.specs.Reading.{start, here, moved, given, reads, tally, counts}
use Rattle.loss_reader.proofs.Reading.Laws.{reads_all}

counts-none : (n : ℕ) (r : LossReader) → width_of (here r) ≡ 0 → counts n r ≡ 0
unfolding counts
counts-none zero r e = refl
counts-none (suc n) r e = ap (λ (w : ℕ). tally w (counts n (moved r))) e

tally-some : (w m : ℕ) → 0 < w → tally w m ≡ suc m
tally-some zero m h = absurd (omega arith)
tally-some (suc w) m h = refl

counts_some : (n : ℕ) (r : LossReader) → 0 < width_of (here r) → 0 < n → counts n r ≡ suc (counts (n - 1) (moved r))
unfolding counts
counts_some zero r h k = absurd (omega arith)
counts_some (suc n) r h k =
    let e : suc n - 1 ≡ n = omega arith in
    tally-some (width_of (here r)) (counts n (moved r)) h ∙ ap (λ (m : ℕ). suc (counts m (moved r))) (sym e)

tally-le : (w m n : ℕ) → m ≤ n → tally w m ≤ suc n
tally-le zero m n h = omega arith
tally-le (suc w) m n h = omega arith

counts-le : (n : ℕ) (r : LossReader) → counts n r ≤ n
unfolding counts
counts-le zero r = omega arith
counts-le (suc n) r = tally-le (width_of (here r)) (counts n (moved r)) n (counts-le n (moved r))

-- ## The count of a well-formed report

-- how many items there are, or d where one is bad
abbrev sized : ℕ → Words → ℕ
sized d (items is) = length is
sized d (bad index) = d

sized-before : (d : ℕ) (i : Item) (w : Words) → sized d w ≡ d → sized (suc d) (before i w) ≡ suc d
unfolding before
sized-before d i (items is) e = ap suc e
sized-before d i (bad index) e = refl

sized-given : (t : Step) (d at : ℕ) (w : Words) → sized d w ≡ d → sized (tally (width_of t) d) (given t at w) ≡ tally (width_of t) d
unfolding given
sized-given (One a) d at w e = sized-before d (item_of (One a)) w e
sized-given (Range a b) d at w e = sized-before d (item_of (Range a b)) w e
sized-given Bad d at w e = refl
sized-given End d at w e = refl

sized_reads : (n : ℕ) (r : LossReader) → sized (counts n r) (reads n r) ≡ counts n r
unfolding counts reads
sized_reads zero r = refl
sized_reads (suc n) r = sized-given (here r) (counts n (moved r)) r.at (reads n (moved r)) (sized_reads n (moved r))

pub counts-items : (ws : Bor (List ℕ)) (is : List Item) → parse 0 ws.now ≡ items is → counts (length ws.now) (start ws) ≡ length is
counts-items ws is e =
    let n : ℕ = counts (length ws.now) (start ws) in
    sym (sized_reads (length ws.now) (start ws)) ∙ ap (sized n) (reads_all ws ∙ e)

-- ## A turn of the count

pub record Turn (s : Bor (List ℕ)) : Type 0 where
  pub left : ℕ
  pub at : ℕ
  pub n : ℕ
  pub sum : n + counts left (record { words = s; at = at }) ≡ counts (length s.now) (start s)
  pub enough : length s.now ≤ at + left

module _ (s : Bor (List ℕ)) where
  abbrev pub standing : Turn s → LossReader
  standing x = record { words = s; at = x.at }

  abbrev pub turn-first : Turn s
  turn-first = record { left = length s.now; at = 0; n = 0; sum = omega arith; enough = omega arith }

  module _ (x : Turn s) where
    pub turn-ends : width_of (here (standing x)) ≡ 0 → x.n ≡ counts (length s.now) (start s)
    turn-ends e = omega (arith, counts-none x.left (standing x) e, x.sum)

    total_le : counts (length s.now) (start s) ≤ length s.now
    total_le = counts-le (length s.now) (start s)

    pub turn-within : x.n ≤ length s.now
    turn-within = omega (arith, x.sum, total_le)

    module _ (h : 0 < width_of (here (standing x))) where
      pub some_left : 0 < x.left
      some_left = omega (arith, h, x.enough, (parse-some s.now x.at h).1)

      pub counts-on : counts x.left (standing x) ≡ suc (counts (x.left - 1) (moved (standing x)))
      counts-on = counts_some x.left (standing x) h some_left

      abbrev pub turn_on : Turn s
      turn_on = record {
        left = x.left - 1;
        at = (moved (standing x)).at;
        n = x.n + 1;
        sum = omega (arith, counts-on, x.sum);
        enough = omega (arith, h, some_left, x.enough);
      }

      pub turn-on-less : x.left - 1 < x.left
      turn-on-less = omega (arith, some_left)

      pub turn-fits : x.n + 1 ≤ length s.now
      turn-fits = omega (arith, counts-on, x.sum, total_le)
