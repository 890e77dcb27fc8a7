-- The whole run on books that represent a sender is the run of the rules.
--   WalkStands                  books, records, their number and the budget left are those of the rules
--   loop-ends, loop_goes        the loop, turn by turn
--   loop_refines, run_refines   the turns; the run
use Rattle.std.specs.Prelude.{◌≡◌, Bool, true, false, List, length}
use Rattle.std.proofs.Math.Path.{refl}
use Rattle.std.proofs.Common.{sym, ap, ◌∙◌, subst, arith, length-append}
use Prim.Native.Nat.{ℕ, zero, suc, ◌+◌, ◌-◌, ◌^◌, ◌≤◌, ◌<◌}
use Rattle.rules.specs.Settings.{Settings}
use Rattle.rules.specs.Sender.{Sender}
use Rattle.rules_theorems.specs.Laws.BookRules.{Kept}
use Rattle.rules.specs.Records.{Action, sends}
use Rattle.rules.specs.Run as Rules
use Rattle.rules.specs.Run.{Turn, Result, others, late}
use Rattle.rules_theorems.specs.Laws.Run as rules
use Rattle.rules_theorems.proofs.Frame.{late-le}
use Rattle.rules_theorems.proofs.RunKept.{others-kept, dropped-kept}
use Rattle.rules_theorems.proofs.Split.{run_is, loop-end, loop-on}
use Rattle.buffer.specs.State.{State}
use Rattle.buffer.specs.State.Stands.{Stands}
use Rattle.run_effects.specs.Sending.{Turned, dropped, written}
use Rattle.buffer_run.specs.Run.{Walk, turn, after, loop, swept_by, swept, run}
use Rattle.run_effects.specs.Sending.Laws.{written-append}
use Rattle.run_effects.specs.Sending.Stands.{TurnStands, dropped_refines}
use Rattle.buffer_run.specs.Run.Laws.{turn-stands}

-- the walk from w₀ to w agrees with the result r of the rules
pub record WalkStands (c : Settings) (w₀ w : Walk) (r : Result) : Type 0 where
  pub state : Stands c w.state r.after
  pub out : w.out ≡ written w₀.count r.records w₀.out
  pub count : w.count ≡ w₀.count + length r.records
  pub left : w.left ≡ r.left

-- ## The loop, turn by turn

module _ (tn : State → Turned) (f b : ℕ) (w : Walk) where
  pub loop-ends : (tn w.state).ends ≡ true → loop tn (suc f) (suc b) w ≡ after (tn w.state) w (suc b)
  unfolding loop
  loop-ends e = rw e

  pub loop_goes : (tn w.state).ends ≡ false
      → loop tn (suc f) (suc b) w ≡ loop tn f (suc b - sends (tn w.state).records) (after (tn w.state) w (suc b - sends (tn w.state).records))
  unfolding loop
  loop_goes e = rw e

same : (c : Settings) {w v v' : Walk} {r r' : Result} → v ≡ v' → r ≡ r' → WalkStands c w v' r' → WalkStands c w v r
same c {w} {v} {v'} {r} {r'} p q W =
    subst (λ (x : Walk). WalkStands c w x r) (sym p) (subst (λ (x : Result). WalkStands c w v' x) (sym q) W)

module _ (c : Settings) (now : ℕ) (draining : Bool) (early : now < 2 ^ 48) where
  -- a turn, followed by the rest
  joined : (w₀ : Walk) (t : Turned) (u : Turn) (b : ℕ) (w : Walk) (r : Result) → TurnStands c t u → WalkStands c (after t w₀ b) w r
      → WalkStands c w₀ w (Rules.join u r)
  joined w₀ t u b w r T W = record {
    state = W.state;
    out = W.out ∙ rw T.records (sym (written-append w₀.count u.records r.records w₀.out));
    count = W.count ∙ rw T.records (let e = length-append u.records r.records in omega (arith, e));
    left = W.left;
  }

  -- a turn that ends the run
  ended : (w : Walk) (t : Turned) (u : Turn) (b : ℕ) → TurnStands c t u
      → WalkStands c w (after t w b) (record { records = u.records; after = u.after; left = b })
  ended w t u b T = record {
    state = T.state;
    out = ap (λ (rs : List Action). written w.count rs w.out) T.records;
    count = ap (λ (rs : List Action). w.count + length rs) T.records;
    left = refl;
  }

  pub loop_refines : (f b : ℕ) (w : Walk) (s : Sender) → Stands c w.state s → Kept c s → w.left ≡ b
      → WalkStands c w (loop (turn c now draining) f b w) (Rules.loop (others c now draining) f b s)
  unfolding loop Rules.loop written
  loop_refines zero b w s S K e = record { state = S; out = refl; count = omega arith; left = e }
  loop_refines (suc f) zero w s S K e = record { state = S; out = refl; count = omega arith; left = e }
  loop_refines (suc f) (suc b) w s S K e =
      by (turn-stands now draining S K early) (others c now draining s).ends refl
      (λ r q. loop_refines f r (after (turn c now draining w.state) w r) (others c now draining s).after q (others-kept c now draining early s K) refl)
    where
      t : Turned
      t = turn c now draining w.state

      u : Turn
      u = others c now draining s

      by : TurnStands c t u → (x : Bool) → u.ends ≡ x
          → ((r : ℕ) → Stands c t.state u.after → WalkStands c (after t w r) (loop (turn c now draining) f r (after t w r)) (Rules.loop (others c now draining) f r u.after))
          → WalkStands c w (loop (turn c now draining) (suc f) (suc b) w) (Rules.loop (others c now draining) (suc f) (suc b) s)
      by T true x more = same c (loop-ends (turn c now draining) f b w (T.ends ∙ x)) (loop-end (others c now draining) f b s x) (ended w t u (suc b) T)
      by T false x more =
          let n : suc b - sends t.records ≡ suc b - sends u.records = ap (λ (rs : List Action). suc b - sends rs) T.records in
          same c (loop_goes (turn c now draining) f b w (T.ends ∙ x)) (loop-on (others c now draining) f b s x)
          (joined w t u (suc b - sends t.records) _ _ T
          (subst (λ (m : ℕ). WalkStands c (after t w (suc b - sends t.records)) (loop (turn c now draining) f (suc b - sends t.records) (after t w (suc b - sends t.records))) (Rules.loop (others c now draining) f m u.after)) n
          (more (suc b - sends t.records) T.state)))

  pub run_refines : (p : ℕ) (st : State) (s : Sender) (out : List ℕ) → Stands c st s → Kept c s
      → WalkStands c (record { state = st; out = out; count = 0; left = p }) (run c now draining p st out) (Rules.run c now draining p s)
  unfolding run swept rules.split rules.sweep written Rules.dropped
  run_refines p st s out S K = rw (run_is c now draining p s) (split-stands p)
    where
      start : ℕ → Walk
      start p = record { state = st; out = out; count = 0; left = p }

      swept-stands : (p k : ℕ) → k ≤ length s.packets
          → WalkStands c (start (suc p)) (loop (turn c now draining) (suc p) (suc p) (swept_by c now draining k (start (suc p))))
          (Rules.join (Rules.dropped c now k s) (rules.turns c now draining (suc p) (suc p) (Rules.dropped c now k s).after))
      swept-stands p zero h = loop_refines (suc p) (suc p) (start (suc p)) s S K refl
      swept-stands p (suc k) h =
          let T = dropped_refines S now k h in
          joined (start (suc p)) (dropped (suc k) st) (Rules.dropped c now (suc k) s) (suc p) _ _ T
          (loop_refines (suc p) (suc p) (after (dropped (suc k) st) (start (suc p)) (suc p)) (Rules.dropped c now (suc k) s).after T.state
          (dropped-kept c now draining early (suc k) s h K) refl)

      split-stands : (p : ℕ) → WalkStands c (start p) (run c now draining p st out) (rules.split c now draining p s)
      split-stands zero = record { state = S; out = refl; count = refl; left = refl }
      split-stands (suc p) = rw S.packets (swept-stands p (late c now s.packets) (late-le c now s.packets))
