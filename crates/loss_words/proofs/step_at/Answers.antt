-- `loss_words::step_at` meets its contract: each path through its tests is one law of `Words.Laws`.
use Rattle.std.proofs.Common.{true, arith, get_or, length, ltb-false, ltb-true, refl, sym, List, ℕ, ◌+◌, ◌<◌, ◌^◌, ◌≡◌}
use Rattle.std.specs.Prelude.{ltb}
use Rattle.std.proofs.lemmas.Option.{get_or_from_slice_get, slice_get_read}
use Rattle.loss_words.specs.Words.Laws.{step_end, step-one, step-alone, step-high, step-far, step_range}
use Rattle.loss_words.proofs.step_at.Goals as goal
use Rattle.loss_words.proofs.step_at.Goals.{In-Some, In-Some-get}

-- a word that `get` gives
read : (ws : List ℕ) (i w : ℕ) → true ≡ ltb i (length ws) → w ≡ get_or ws i w → get_or ws i 0 ≡ w
read ws i w h e = get_or_from_slice_get ws i w 0 (slice_get_read ws (length ws) i w refl (ltb-true i (length ws) (sym h)) e)

-- the first word is there, and the second
inside : (c : In-Some) → c.args.at < length c.args.words.now
inside c = ltb-true c.args.at (length c.args.words.now) (sym c.in-Some.ensures.lookup.0)

first : (c : In-Some) → get_or c.args.words.now c.args.at 0 ≡ c.in-Some.field-0.now
first c = read c.args.words.now c.args.at c.in-Some.field-0.now c.in-Some.ensures.lookup.0 c.in-Some.ensures.lookup.1

more : (c : In-Some-get) → c.args.at + 1 < length c.args.words.now
more c = ltb-true (c.args.at + 1) (length c.args.words.now) (sym c.in-Some-get.ensures.lookup.0)

second : (c : In-Some-get) → get_or c.args.words.now (c.args.at + 1) 0 ≡ c.in-Some-get.field-0.now
second c = read c.args.words.now (c.args.at + 1) c.in-Some-get.field-0.now c.in-Some-get.ensures.lookup.0 c.in-Some-get.ensures.lookup.1

pub returns-in_default : goal.returns-in_default
returns-in_default c =
    sym (step_end c.args.words.now c.args.at (ltb-false c.args.at (length c.args.words.now) (sym c.in_default.ensures.lookup.0)))

pub returns-then-w-lt2147483648 : goal.returns-then-w-lt2147483648
returns-then-w-lt2147483648 c =
    let s = (goal.at.returns-then-w-lt2147483648 c).In-Some in
    sym (rw (first s) at (step-one c.args.words.now c.args.at (inside s) (rw (first s) c.if-w-lt2147483648.true)))

pub returns-in_default-get : goal.returns-in_default-get
returns-in_default-get c =
    let s = (goal.at.returns-in_default-get c).In-Some in
    sym (step-alone c.args.words.now c.args.at (inside s) (rw (first s) c.if-w-lt2147483648.false)
    (ltb-false (c.args.at + 1) (length c.args.words.now) (sym c.in_default-get.ensures.lookup.0)))

pub returns-then-last-ge2147483648 : goal.returns-then-last-ge2147483648
returns-then-last-ge2147483648 c =
    let s = (goal.at.returns-then-last-ge2147483648 c).In-Some in
    let m = (goal.at.returns-then-last-ge2147483648 c).In-Some-get in
    sym (step-high c.args.words.now c.args.at (inside s) (rw (first s) c.if-w-lt2147483648.false) (more m) (rw (second m) c.if-last-ge2147483648.true))

pub returns-then-distance-ge1073741824 : goal.returns-then-distance-ge1073741824
returns-then-distance-ge1073741824 c =
    let s = (goal.at.returns-then-distance-ge1073741824 c).In-Some in
    let m = (goal.at.returns-then-distance-ge1073741824 c).In-Some-get in
    let word : get_or c.args.words.now c.args.at 0 < 2 ^ 32 = omega (arith, c.type_inv.words c.args.at) in
    let far = rw c.distance.ensures at c.if-distance-ge1073741824.true in
    sym (step-far c.args.words.now c.args.at (inside s) (rw (first s) c.if-w-lt2147483648.false) (more m) word
    (rw (second m) c.if-last-ge2147483648.false) (rw (first s, second m) far))

pub returns : goal.returns
returns c =
    let s = (goal.at.returns c).In-Some in
    let m = (goal.at.returns c).In-Some-get in
    let word : get_or c.args.words.now c.args.at 0 < 2 ^ 32 = omega (arith, c.type_inv.words c.args.at) in
    let near = rw c.distance.ensures at c.if-distance-ge1073741824.false in
    rw (← first s, ← second m)
    (sym (step_range c.args.words.now c.args.at (inside s) (rw (first s) c.if-w-lt2147483648.false) (more m) word
    (rw (second m) c.if-last-ge2147483648.false) (rw (first s, second m) near)))
