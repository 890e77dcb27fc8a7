-- The invariant of a run's loop: how far it is, and that its records fit in the list.
--   Going                             what is still to do, and that there is room for it
--   going_start, run-from             the loop begins after rule 1, and ends where the run does
--   going_turning                     what a turn requires
--   going_on, going_end, going_done   the run goes on after a turn, or ends with it; the budget is used up
--   going_less                        a turn that goes on writes a record and costs a unit
use Rattle.std.specs.Prelude.{◌≡◌, refl, Bool, true, false, length}
use Rattle.std.proofs.Common.{sym, ◌∙◌, subst, arith}
use Rattle.std.proofs.Math.Path.{ap}
use Prim.Native.Nat.{ℕ, zero, suc, ◌+◌, ◌-◌, ◌*◌, ◌^◌, ◌≤◌, ◌<◌, min}
use Rattle.rules.specs.Settings.{Settings}
use Rattle.rules.specs.Records.{sends}
use Rattle.buffer.specs.State.{State}
use Rattle.run_effects.specs.declared.Records.{Records}
use Rattle.run_effects.specs.Sending.{Turned}
use Rattle.buffer_run.specs.Run.{Walk, walk, turn, after, loop, swept, run}
use Rattle.buffer_run.specs.Run.Turns.{Turning, Done, Swept, Runnable}
use Rattle.buffer_run.specs.Run.Loop.{InLoop, loop-done, turn_end, turn-some, turn-room, turn-cost, turn_on, swept_in}

pub record Going (c : Settings) (now : ℕ) (draining : Bool) (goal w : Walk) : Type 0 where
  pub early : now < 2 ^ 48
  pub room : ℕ
  pub within : room * 24 ≤ length w.out
  pub inside : InLoop c now draining goal room w

module _ (c : Settings) (now : ℕ) (draining : Bool) where
  module _ (p : ℕ) (st : State) (given : Records) (st' : State) (left : Records) (S : Swept c now st given st' left) (none : given.count ≡ 0) where
    begins : (b : ℕ) → walk st' left.list.now left.count b ≡ swept c now draining (walk st given.list.now 0 b)
    begins b = subst (λ (n : ℕ). walk st' left.list.now left.count b ≡ swept c now draining (walk st given.list.now n b)) none (S.is draining b)

    pub run-from : 1 ≤ p → loop (turn c now draining) p p (walk st' left.list.now left.count p) ≡ run c now draining p st given.list.now
    unfolding run
    run-from h = go p h
      where
        go : (q : ℕ) → 1 ≤ q → loop (turn c now draining) q q (walk st' left.list.now left.count q) ≡ run c now draining q st given.list.now
        go zero z = absurd (omega arith)
        go (suc q) z = ap (loop (turn c now draining) (suc q) (suc q)) (begins (suc q))

    pub going_start : 1 ≤ p → Runnable c now p st given.list.now
        → Going c now draining (loop (turn c now draining) p p (walk st' left.list.now left.count p)) (walk st' left.list.now left.count p)
    going_start h R = record {
      early = R.early;
      room = min p st.books.ring.len + 3;
      within = omega (arith, R.room, S.same.long);
      inside = go p refl h;
    }
      where
        go : (q : ℕ) → p ≡ q → 1 ≤ q → InLoop c now draining (loop (turn c now draining) p p (walk st' left.list.now left.count p)) (min p st.books.ring.len + 3) (walk st' left.list.now left.count p)
        go zero f z = absurd (omega arith)
        go (suc q) f z =
            subst (λ (g : Walk). InLoop c now draining g (min p st.books.ring.len + 3) (walk st' left.list.now left.count p)) (sym (run-from h))
            (subst (λ (b : ℕ). InLoop c now draining (run c now draining b st given.list.now) (min b st.books.ring.len + 3) (walk st' left.list.now left.count b)) (sym f)
            (subst (λ (x : Walk). InLoop c now draining (run c now draining (suc q) st given.list.now) (min (suc q) st.books.ring.len + 3) x) (sym (begins (suc q)))
            (swept_in c now draining R.early st given.list.now q (min (suc q) st.books.ring.len + 3) R.ready (omega arith))))

  module _ (goal w : Walk) (G : Going c now draining goal w) where
    pub going_done : w.left ≡ 0 → w ≡ goal
    going_done e = loop-done c now draining goal G.room w G.inside e

  module _ (goal : Walk) (st : State) (given : Records) (b : ℕ) (G : Going c now draining goal (walk st given.list.now given.count b)) where
    abbrev w : Walk
    w = walk st given.list.now given.count b

    module _ (h : 0 < w.left) where
      pub going_turning : Turning c now st given
      going_turning = record {
        ready = record { sender = G.inside.sender; stands = G.inside.stands; kept = G.inside.kept };
        early = G.early;
        room = omega (arith, G.within, turn-room c now draining goal G.room G.early w G.inside h);
      }

      module _ (st' : State) (ends : Bool) (left : Records) (D : Done c now draining st given st' ends left) where
        abbrev t : Turned
        t = turn c now draining w.state

        left_is : (x : ℕ) → walk st' left.list.now left.count x ≡ after t w x
        left_is x = let A = D.wrote.acted in rw (A.state, A.count, A.list)

        pub going_end : ends ≡ true → walk st' left.list.now left.count w.left ≡ goal
        going_end e = left_is w.left ∙ turn_end c now draining goal G.room G.early w G.inside h (sym D.ended ∙ e)

        module _ (e : ends ≡ false) where
          cost : left.count - w.count ≡ sends t.records
          cost = let k = turn-cost c now draining goal G.room G.early w G.inside h (sym D.ended ∙ e) in omega (arith, k, D.wrote.acted.count)

          pub going_on : Going c now draining goal (walk st' left.list.now left.count (w.left - (left.count - w.count)))
          going_on = record {
            early = G.early;
            room = G.room;
            within = rw D.wrote.same.long G.within;
            inside =
                subst (λ (x : Walk). InLoop c now draining goal G.room x) (sym (ap (λ (k : ℕ). walk st' left.list.now left.count (w.left - k)) cost ∙ left_is (w.left - sends t.records)))
                (turn_on c now draining goal G.room G.early w G.inside h (sym D.ended ∙ e));
          }

          pub going_less : (w.count < left.count) × (w.left - (left.count - w.count) < w.left)
          going_less =
              let k = turn-cost c now draining goal G.room G.early w G.inside h (sym D.ended ∙ e) in
              let n = turn-some c now draining goal G.room G.early w G.inside h in
              (omega (arith, n, D.wrote.acted.count), omega (arith, n, h, D.wrote.acted.count))
