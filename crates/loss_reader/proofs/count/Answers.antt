-- `loss_reader::count` meets its contract: each turn of the loop is a `Turn` of the count.
use Rattle.std.proofs.Common.{ap, arith, length, refl, ◌+◌, ◌<◌, ◌∙◌, ◌≡◌}
use Rattle.std.proofs.Math.Facts.{Fits-of_lt}
use Rattle.std.specs.Borrow.{Bor}
use Rattle.std.specs.Prelude.{List, ℕ, ◌^◌}
use Rattle.loss_words.specs.Words.{width_of}
use Rattle.loss_words.specs.Words.Laws.{parse-some}
use Rattle.loss_reader.specs.Reading.{start, here, moved, counts}
use Rattle.loss_reader.proofs.Reading.Counting.{Turn, standing, turn-first, turn-ends, turn_on, turn-fits}
use Rattle.loss_reader.proofs.count.Goals as goal
use Rattle.loss_reader.proofs.count.Goals.{After-width}

-- the words that the reader began with, the turn, and the width of what is at the turn's place
abbrev lent : After-width → Bor (List ℕ)
lent c = c.new-reader.result.words

abbrev turn : (c : After-width) → Turn (lent c)
turn c = c.loop-reader.invariant.0

is : (c : After-width) → c.width.result ≡ width_of (here (standing (lent c) (turn c)))
is c = c.width.ensures ∙ ap width_of (c.next.ensures.0 ∙ ap here c.loop-reader.invariant.1)

same : (c : After-width) → lent c ≡ c.args.words
same c = ap (λ r. r.words) c.new-reader.ensures

pub loop-reader-init : goal.loop-reader-init
loop-reader-init c = (turn-first c.new-reader.result.words, rw c.new-reader.ensures, refl)

pub returns : goal.returns
returns c =
    let a = (goal.at.returns c).After-width in
    c.loop-reader.invariant.2
    ∙ turn-ends (lent a) (turn a) (omega (arith, is a))
    ∙ ap (λ (s : Bor (List ℕ)). counts (length s.now) (start s)) (same a)

pub overflow_add-n : goal.overflow_add-n
overflow_add-n c =
    let a = (goal.at.overflow_add-n c).After-width in
    let room : length c.args.words.now < 2 ^ 64 = omega arith in
    Fits-of_lt (omega (arith, c.loop-reader.invariant.2, turn-fits (lent a) (turn a) (omega (arith, is a)), ap (λ (s : Bor (List ℕ)). length s.now) (same a)))

pub loop-reader-smaller : goal.loop-reader-smaller
loop-reader-smaller c =
    let a = (goal.at.loop-reader-smaller c).After-width in
    let some : 0 < width_of (here (standing (lent a) (turn a))) = omega (arith, is a) in
    let within = (parse-some (lent a).now (turn a).at some).1 in
    rw (c.next.ensures.1, c.loop-reader.invariant.1) (omega arith)

pub loop-reader-preserved : goal.loop-reader-preserved
loop-reader-preserved c =
    let a = (goal.at.loop-reader-preserved c).After-width in
    (turn_on (lent a) (turn a) (omega (arith, is a)), c.next.ensures.1 ∙ ap moved c.loop-reader.invariant.1, ap (λ (n : ℕ). n + 1) c.loop-reader.invariant.2)
