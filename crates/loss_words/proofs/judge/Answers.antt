-- `loss_words::judge` meets its contract. At each turn, the items passed and what the rules read from there on make up
-- the whole report (`Read`).
use Rattle.std.proofs.Common.{ap, arith, length, sym, ◌+◌, ◌∙◌, ◌≡◌, ◌≤◌}
use Rattle.loss_words.specs.Words.{step_at, width_of, judged}
use Rattle.loss_words.specs.Words.Laws.{read_none, read_on, read_bad, read_all, words_many, words-few, parse-some}
use Rattle.loss_words.proofs.judge.Goals as goal
use Rattle.loss_words.proofs.judge.Goals.{After-width-width, Else-width-lt1}

-- what `width` gives at index `at`, and that an item ends within the report
is : (c : After-width-width) → c.width-width.result ≡ width_of (step_at c.args.words.now c.loop-at.at)
is c = c.width-width.ensures ∙ ap width_of c.step_at.ensures

within : (c : Else-width-lt1)
    → c.width-width.result ≡ width_of (step_at c.args.words.now c.loop-at.at)
    → c.loop-at.at + c.width-width.result ≤ length c.args.words.now
within c e = rw e (parse-some c.args.words.now c.loop-at.at (omega arith)).1

pub returns-then-words-gt512 : goal.returns-then-words-gt512
returns-then-words-gt512 c = sym (ap judged (words_many c.args.words.now c.if-words-gt512.true))

pub loop-at-init : goal.loop-at-init
loop-at-init c = (c.if-words-gt512.false, read_none c.args.words.now)

pub returns-then-width-lt1 : goal.returns-then-width-lt1
returns-then-width-lt1 c =
    let ws = c.args.words.now in
    read_bad ws c.loop-at.at c.loop-at.n c.loop-at.invariant.1 c.loop-at-test.true (omega (arith, is (goal.at.returns-then-width-lt1 c).After-width-width))
    ∙ ap judged (sym (words-few ws c.loop-at.invariant.0))

pub overflow_add-at : goal.overflow_add-at
overflow_add-at c = omega (arith, within (goal.at.overflow_add-at c).Else-width-lt1 (is (goal.at.overflow_add-at c).After-width-width))

pub loop-at-smaller : goal.loop-at-smaller
loop-at-smaller c = omega (arith, within (goal.at.loop-at-smaller c).Else-width-lt1 (is (goal.at.loop-at-smaller c).After-width-width))

pub loop-at-preserved : goal.loop-at-preserved
loop-at-preserved c =
    rw (is (goal.at.loop-at-preserved c).After-width-width)
    (c.loop-at.invariant.0, read_on c.args.words.now c.loop-at.at c.loop-at.n c.loop-at.invariant.1 (omega (arith, is (goal.at.loop-at-preserved c).After-width-width)))

pub returns : goal.returns
returns c =
    let ws = c.args.words.now in
    read_all ws c.loop-at.at c.loop-at.n c.loop-at.invariant.1 c.loop-at-test.false ∙ ap judged (sym (words-few ws c.loop-at.invariant.0))
