-- `run_choice::late_packets` meets its contract: the loop has counted i packets; the rest are counted from the latest
-- late one's message on.
use Rattle.std.proofs.Common.{arith, sym, ◌-◌, ◌∙◌}
use Rattle.buffer.specs.State.{settings_of}
use Rattle.run_choice.specs.Choice.Laws.{late-none, late-front, late-start, late-go, late-stop, late-end}
use Rattle.run_choice.proofs.late_packets.Goals as goal

pub returns-then-b-lt1 : goal.returns-then-b-lt1
returns-then-b-lt1 c = sym (late-none _ _ _ _ c.if-b-lt1.true)

pub returns-then-not-is_late : goal.returns-then-not-is_late
returns-then-not-is_late c =
    let front = c.entry-front.ensures in
    sym (late-front _ _ _ _ c.if-b-lt1.false (rw (← front) (sym c.is_late.ensures ∙ c.if-not-is_late.true)))

pub loop-i-init : goal.loop-i-init
loop-i-init c =
    let front = c.entry-front.ensures in
    rw front (late-start _ _ _ _ c.if-b-lt1.false (rw (← front) (sym c.is_late.ensures ∙ c.if-not-is_late.false)))

pub returns-then-not-is_late-e : goal.returns-then-not-is_late-e
returns-then-not-is_late-e c =
    let e = c.entry-e.ensures in
    let no = c.if-not-is_late-e.true in
    let stop = late-stop (settings_of c.args.c) c.args.ts_now c.args.b.ring c.args.ring.now c.loop-i.i c.loop-i.message c.loop-i-test.true
    (rw (← e, ← c.is_late-in-loop-i.ensures) no) in
    sym (c.loop-i.invariant ∙ omega (arith, stop))

pub loop-i-preserved : goal.loop-i-preserved
loop-i-preserved c =
    let e = c.entry-e.ensures in
    let yes = c.if-not-is_late-e.false in
    let go = late-go (settings_of c.args.c) c.args.ts_now c.args.b.ring c.args.ring.now c.loop-i.i c.loop-i.message c.loop-i-test.true
    (rw (← e, ← c.is_late-in-loop-i.ensures) yes) in
    rw e (c.loop-i.invariant ∙ omega (arith, go))

pub returns : goal.returns
returns c =
    let end = late-end (settings_of c.args.c) c.args.ts_now c.args.b.ring c.args.ring.now c.loop-i.i c.loop-i.message c.loop-i-test.false in
    sym (c.loop-i.invariant ∙ omega (arith, end, c.loop-i-test.false, c.loop-i.auto.i-end c.if-b-lt1.false))
