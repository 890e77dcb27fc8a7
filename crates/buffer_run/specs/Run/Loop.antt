-- How far the loop of a run is: what is still to do, and that its records fit in the list.
--   InLoop                            books that represent a sender; from here the loop ends as the run does
--   loop-done                         the budget is used up
--   turn_end, turn_on                 a turn ends the run, or the loop goes on
--   turn-some, turn-room, turn-cost   a turn writes a record, has room for two, and costs a unit for each if it goes on
--   t, u                              the turn on the books, and in the rules
--   swept_in                          the loop begins, after rule 1
use Rattle.std.specs.Prelude.{◌≡◌, refl, Bool, true, false, List}
use Rattle.std.proofs.Math.Path.{sym, ap}
use Rattle.std.proofs.Common.{◌∙◌, subst, true≢false, arith, length-append}
use Prim.Native.Nat.{ℕ, zero, suc, ◌+◌, ◌-◌, ◌^◌, ◌≤◌, ◌<◌, min}
use Rattle.std.proofs.Math.ListN.{length}
use Rattle.rules.specs.Settings.{Settings}
use Rattle.rules.specs.Sender.{Sender}
use Rattle.rules_theorems.specs.Laws.BookRules.{Kept}
use Rattle.rules.specs.Records.{Action, sends}
use Rattle.rules.specs.Run as Rules
use Rattle.rules.specs.Run.{Turn, Result, others, late}
use Rattle.rules_theorems.specs.Laws.Run as rules
use Rattle.rules_theorems.specs.Laws.Run.{Paid, stop, one, two}
use Rattle.rules_theorems.proofs.Frame.{late-le}
use Rattle.rules_theorems.proofs.Room.{split-room}
use Rattle.rules_theorems.proofs.RunKept.{others-kept, dropped-kept}
use Rattle.rules_theorems.proofs.Sends.{obey-paid}
use Rattle.rules_theorems.proofs.Split.{loop-end, loop-on}
use Rattle.buffer.specs.State.{State}
use Rattle.buffer.specs.State.Stands.{Stands, Ready}
use Rattle.buffer.specs.State.View.{packets-length}
use Rattle.run_effects.specs.Sending.{Turned, dropped}
use Rattle.run_effects.specs.Sending.Stands.{TurnStands, dropped_refines}
use Rattle.buffer_run.specs.Run.{Walk, turn, after, loop, swept_by, swept, run}
use Rattle.buffer_run.specs.Run.Laws.{turn-stands}
use Rattle.buffer_run.specs.Run.Laws.Whole.{loop-ends, loop_goes}

module _ (c : Settings) (now : ℕ) (draining : Bool) where
  -- the run ends at `goal`, and its records fit in the list's `room` records, with one to spare
  pub record InLoop (goal : Walk) (room : ℕ) (w : Walk) : Type 0 where
    pub fuel : ℕ
    pub sender : Sender
    pub stands : Stands c w.state sender
    pub kept : Kept c sender
    pub enough : w.left ≤ fuel
    pub same : loop (turn c now draining) fuel w.left w ≡ goal
    pub fits : w.count + length (Rules.loop (others c now draining) fuel w.left sender).records + 1 ≤ room

loop-zero : (tn : State → Turned) (f : ℕ) (w : Walk) → loop tn f 0 w ≡ w
unfolding loop
loop-zero tn zero w = refl
loop-zero tn (suc f) w = refl

module _ (c : Settings) (now : ℕ) (draining : Bool) (goal : Walk) (room : ℕ) where
  pub loop-done : (w : Walk) → InLoop c now draining goal room w → w.left ≡ 0 → w ≡ goal
  loop-done w I e =
      sym (loop-zero (turn c now draining) I.fuel w)
      ∙ subst (λ (b : ℕ). loop (turn c now draining) I.fuel b w ≡ goal) e I.same

  module _ (early : now < 2 ^ 48) (w : Walk) (I : InLoop c now draining goal room w) where
    abbrev pub t : Turned
    t = turn c now draining w.state

    abbrev pub u : Turn
    u = others c now draining I.sender

    T : TurnStands c t u
    T = turn-stands now draining I.stands I.kept early

    paid : Paid u
    unfolding Rules.others
    paid = obey-paid c now draining (Rules.rule c now draining I.sender) I.sender

    -- where budget is left, fuel and budget suffice for another turn
    record Ahead : Type 0 where
      pub fuel : ℕ
      pub rest : ℕ
      pub burns : I.fuel ≡ suc fuel
      pub budget : w.left ≡ suc rest

    ahead : 0 < w.left → Ahead
    ahead h = go I.fuel w.left refl refl I.enough h
      where
        go : (f b : ℕ) → I.fuel ≡ f → w.left ≡ b → b ≤ f → 0 < b → Ahead
        go f zero p q l z = absurd (omega arith)
        go zero (suc b) p q l z = absurd (omega arith)
        go (suc f) (suc b) p q l z = record { fuel = f; rest = b; burns = p; budget = q }

    module _ (h : 0 < w.left) where
      A : Ahead
      A = ahead h

      same-loop : loop (turn c now draining) (suc A.fuel) (suc A.rest) w ≡ goal
      same-loop = subst (λ (f : ℕ). loop (turn c now draining) f (suc A.rest) w ≡ goal) A.burns
          (subst (λ (b : ℕ). loop (turn c now draining) I.fuel b w ≡ goal) A.budget I.same)

      abbrev more : Result
      more = Rules.loop (others c now draining) (suc A.fuel) (suc A.rest) I.sender

      fits_more : w.count + length more.records + 1 ≤ room
      fits_more = subst (λ (f : ℕ). w.count + length (Rules.loop (others c now draining) f (suc A.rest) I.sender).records + 1 ≤ room) A.burns
          (subst (λ (b : ℕ). w.count + length (Rules.loop (others c now draining) I.fuel b I.sender).records + 1 ≤ room) A.budget I.fits)

      pub turn_end : t.ends ≡ true → after t w w.left ≡ goal
      turn_end e =
          subst (λ (b : ℕ). after (turn c now draining w.state) w b ≡ goal) (sym A.budget)
          (sym (loop-ends (turn c now draining) A.fuel A.rest w e) ∙ same-loop)

      some-records : 1 ≤ length u.records
      some-records = go paid
        where
          go : Paid u → 1 ≤ length u.records
          go (stop e p q) = omega (arith, q)
          go (one e p q) = omega (arith, q)
          go (two a b e p q r m) = omega (arith, ap length p)

      pub turn-some : 1 ≤ length t.records
      turn-some = let n = ap length T.records in omega (arith, n, some-records)

      pub turn-room : w.count + 2 ≤ room
      turn-room = go u.ends refl
        where
          go : (x : Bool) → u.ends ≡ x → w.count + 2 ≤ room
          go true x = let e = ap (λ (r : Result). length r.records) (loop-end (others c now draining) A.fuel A.rest I.sender x) in omega (arith, fits_more, e, some-records)
          go false x =
              let e = ap (λ (r : Result). length r.records) (loop-on (others c now draining) A.fuel A.rest I.sender x) in
              let d = length-append u.records (Rules.loop (others c now draining) A.fuel (suc A.rest - sends u.records) u.after).records in
              omega (arith, fits_more, e, d, some-records)

      -- a turn that goes on costs a unit for each of its records
      pub turn-cost : t.ends ≡ false → sends t.records ≡ length t.records
      turn-cost e = rw T.records (go paid (sym T.ends ∙ e))
        where
          go : Paid u → u.ends ≡ false → sends u.records ≡ length u.records
          go (stop p q r) n = absurd (true≢false (sym p ∙ n))
          go (one p q r) n = q ∙ sym r
          go (two a b p q r m k) n = rw q (omega (arith, r, m))

      pub turn_on : t.ends ≡ false → InLoop c now draining goal room (after t w (w.left - sends t.records))
      turn_on e =
          subst (λ (b : ℕ). InLoop c now draining goal room (after t w (b - sends t.records))) (sym A.budget)
          (record {
            fuel = A.fuel;
            sender = u.after;
            stands = T.state;
            kept = others-kept c now draining early I.sender I.kept;
            enough = let k = turn-cost e in let n = ap length T.records in omega (arith, k, n, some-records, I.enough, A.burns, A.budget);
            same = sym (loop_goes (turn c now draining) A.fuel A.rest w e) ∙ same-loop;
            fits = fits_on;
          })
        where
          rest : ℕ → List Action
          rest n = (Rules.loop (others c now draining) A.fuel (suc A.rest - n) u.after).records

          fits_on : w.count + length t.records + length (rest (sends t.records)) + 1 ≤ room
          fits_on =
              let q = ap (λ (r : Result). length r.records) (loop-on (others c now draining) A.fuel A.rest I.sender (sym T.ends ∙ e)) in
              let d = length-append u.records (rest (sends u.records)) in
              let k = ap (λ (rs : List Action). length (rest (sends rs))) T.records in
              let n = ap length T.records in
              omega (arith, fits_more, q, d, k, n)

-- ## The loop begins

module _ (c : Settings) (now : ℕ) (draining : Bool) (early : now < 2 ^ 48) (st : State) (out : List ℕ) (p room : ℕ) (R : Ready c st)
    (roomy : min (suc p) st.books.ring.len + 3 ≤ room) where
  abbrev s : Sender
  s = R.sender

  abbrev start : Walk
  start = record { state = st; out = out; count = 0; left = suc p }

  by-late : (k : ℕ) → k ≤ length s.packets
      → length (Rules.join (Rules.dropped c now k s) (rules.turns c now draining (suc p) (suc p) (Rules.dropped c now k s).after)).records + 1 ≤ room
      → InLoop c now draining (loop (turn c now draining) (suc p) (suc p) (swept_by c now draining k start)) room (swept_by c now draining k start)
  unfolding Rules.dropped dropped
  by-late zero h f = record { fuel = suc p; sender = s; stands = R.stands; kept = R.kept; enough = omega arith; same = refl; fits = omega (arith, f) }
  by-late (suc k) h f =
      let T = dropped_refines R.stands now k h in
      record {
        fuel = suc p;
        sender = (Rules.dropped c now (suc k) s).after;
        stands = T.state;
        kept = dropped-kept c now draining early (suc k) s h R.kept;
        enough = omega arith;
        same = refl;
        fits = omega (arith, f);
      }

  pub swept_in : InLoop c now draining (run c now draining (suc p) st out) room (swept c now draining (record { state = st; out = out; count = 0; left = suc p }))
  unfolding run swept rules.split rules.sweep
  swept_in =
      let few : st.books.ring.len ≡ length s.packets = sym (packets-length st.books.ring st.ring) ∙ ap length R.stands.packets in
      let fits : length (rules.split c now draining (suc p) s).records + 1 ≤ room = omega (arith, split-room c now draining (suc p) s R.kept.good, roomy, few) in
      rw R.stands.packets (by-late (late c now s.packets) (late-le c now s.packets) fits)
