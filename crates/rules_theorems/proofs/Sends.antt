-- How much a run sends. A turn of rules 2 to 7 ends the run and sends nothing, or sends one packet, or two with the
-- second one's number divisible by 16 (`Paid`); its cost is the number of sends among its records, so the bounds follow
-- by induction on the turns.
use mathlib.Core.Path.{◌≡◌, refl, sym}
use mathlib.Core.Bool.{Bool, ◌&&◌, false, true}
use mathlib.Core.List.{List, [], ◌++◌, ◌∷◌, append_assoc}
use Prim.Native.Nat.{◌%◌, ◌+◌, ◌-◌, ◌≤◌, suc, zero, ℕ}
use native.Mathlib.Omega.{arith}
use lib.Dec.{eqb, ltb}
use borrow.Author.Tests.{eqb-true}
use Rattle.laws.specs.Bools.{and_l}
use Rattle.rules.specs.Numbers.{wire}
use Rattle.rules_theorems.specs.Demands.{Within, over, under}
use Rattle.rules.specs.Records.{Action, Send, drop_record, is_send, send_record, sends, wait_ack, wait_input}
use Rattle.rules.specs.Run.{Result, Rule, Turn, dropped, due, extra, flush, input, join, late, loop, loss, obey, others, rule, send, unsent, window}
use Rattle.rules.specs.Sender.{Sender, end, packet}
use Rattle.rules.specs.Settings.{Settings}
use Rattle.rules_theorems.specs.Laws.Run.{Paid, one, split, stop, sweep, turns, two}

pub sends-append : (rs qs : List Action) → sends (rs ++ qs) ≡ sends rs + sends qs
sends-append [] qs = omega arith
sends-append (a ∷ rs) qs = omega (arith, sends-append rs qs)

prepend : (p q : ℕ) (pre rs : List Action) → sends pre + q ≡ p → Within q rs → Within p (pre ++ rs)
prepend p q pre rs e (under u) = under (rw sends-append (omega arith))
prepend p q pre rs e (over pre' a r z i d) =
    over (pre ++ pre') a (rw r (sym (append_assoc pre pre' (a ∷ [])))) (rw sends-append (omega arith)) i d

module _ (c : Settings) (now : ℕ) (draining : Bool) where
  extra-paid : (t : Turn) (a : Action) → t.ends ≡ false → t.records ≡ a ∷ [] → is_send a.kind ≡ 1 → Paid (extra c now draining t)
  unfolding extra send send_record
  extra-paid t a e r i = go (eqb (wire t.after.next % 16) 0 && ltb t.after.next (end t.after)) refl
    where
      go : (b : Bool) → (eqb (wire t.after.next % 16) 0 && ltb t.after.next (end t.after)) ≡ b → Paid (extra c now draining t)
      go true q =
          rw (q, extra) (two a (send_record Send t.after.next (packet t.after t.after.next)) refl (rw r refl) i refl
          (eqb-true _ _ (and_l (eqb (wire t.after.next % 16) 0) (ltb t.after.next (end t.after)) q)))
      go false q = rw (q, extra) (one e (rw r (omega arith)) (rw r))

  pub extra-some : (t : Turn) (a : Action) → t.records ≡ a ∷ [] → is_send a.kind ≡ 1 → 1 ≤ sends (extra c now draining t).records
  unfolding extra
  extra-some t a r i = go (eqb (wire t.after.next % 16) 0 && ltb t.after.next (end t.after)) refl
    where
      go : (b : Bool) → (eqb (wire t.after.next % 16) 0 && ltb t.after.next (end t.after)) ≡ b
          → 1 ≤ sends (extra c now draining t).records
      go true q = rw (q, extra, r) (omega arith)
      go false q = rw (q, extra, r) (omega arith)

  pub obey-paid : (r : Rule) (s : Sender) → Paid (obey c now draining r s)
  unfolding obey send send_record wait_ack wait_input
  obey-paid (loss x xs) s = one refl refl refl
  obey-paid (due n) s = one refl refl refl
  obey-paid window s = stop refl refl refl
  obey-paid unsent s = extra-paid (send c now draining Send s.next (suc s.next) s.lost s) _ refl refl refl
  obey-paid flush s = one refl refl refl
  obey-paid input s = stop refl refl refl

  pub turns-zero : (f : ℕ) (s : Sender) → (turns c now draining f 0 s).records ≡ []
  unfolding loop
  turns-zero zero s = refl
  turns-zero (suc f) s = refl

  pub turns-end : (f b : ℕ) (s : Sender) → (others c now draining s).ends ≡ true
      → turns c now draining (suc f) (suc b) s
      ≡ record { records = (others c now draining s).records; after = (others c now draining s).after; left = suc b }
  unfolding loop
  turns-end f b s e = rw (e, loop)

  pub turns-on : (f b : ℕ) (s : Sender) → (others c now draining s).ends ≡ false
      → turns c now draining (suc f) (suc b) s
      ≡ join (others c now draining s)
      (turns c now draining f (suc b - sends (others c now draining s).records) (others c now draining s).after)
  unfolding loop
  turns-on f b s e = rw (e, loop)

  pub turn-paid : (s : Sender) → Paid (others c now draining s)
  unfolding others
  turn-paid s = obey-paid (rule c now draining s) s

  pub turns-within : (f b : ℕ) (s : Sender) → Within b (turns c now draining f b s).records
  unfolding loop
  turns-within zero b s = under (omega arith)
  turns-within (suc f) zero s = under (omega arith)
  turns-within (suc f) (suc b) s =
      go b (turn-paid s) (turns-within f (suc b - sends (others c now draining s).records) (others c now draining s).after)
    where
      t : Turn
      t = others c now draining s

      r : ℕ → Result
      r b = turns c now draining f (suc b - sends t.records) t.after

      go : (b : ℕ) → Paid t → Within (suc b - sends t.records) (r b).records
          → Within (suc b) (turns c now draining (suc f) (suc b) s).records
      go b (stop e z l) ih = rw (turns-end f b s e) (under (omega arith))
      go b (one e z l) ih =
          rw (turns-on f b s e) (prepend (suc b) (suc b - sends t.records) t.records (r b).records (omega arith) ih)
      go zero (two x y e q i j d) ih =
          let z : 1 - sends t.records ≡ 0 = rw q (omega arith) in
          let n : (r 0).records ≡ [] = rw z (turns-zero f t.after) in
          rw (turns-on f zero s e) (over (x ∷ []) y (rw (n, q)) (omega arith) j d)
      go (suc b) (two x y e q i j d) ih =
          rw (turns-on f (suc b) s e)
          (prepend (suc (suc b)) (suc (suc b) - sends t.records) t.records (r (suc b)).records (rw q (omega arith)) ih)

  pub dropped-none : (k : ℕ) (s : Sender) → sends (dropped c now k s).records ≡ 0
  unfolding dropped drop_record
  dropped-none zero s = refl
  dropped-none (suc k) s = refl

  -- a run with budget p sends at most p + 1 packets, the extra one only if its number is divisible by 16
  pub split-within : (p : ℕ) (s : Sender) → Within p (split c now draining p s).records
  unfolding split sweep
  split-within zero s = under (omega arith)
  split-within (suc p) s =
      prepend (suc p) (suc p) (sweep c now s).records _ (rw (dropped-none (late c now s.packets) s) (omega arith))
      (turns-within (suc p) (suc p) (sweep c now s).after)

  -- and nothing for p = 0
  pub split-none : (s : Sender) → (split c now draining 0 s).records ≡ []
  unfolding split
  split-none s = refl

  -- the budget left is p less the sends, never below 0
  pub turns-left : (f b : ℕ) (s : Sender) → (turns c now draining f b s).left ≡ b - sends (turns c now draining f b s).records
  unfolding loop
  turns-left zero b s = omega arith
  turns-left (suc f) zero s = omega arith
  turns-left (suc f) (suc b) s =
      go (turn-paid s) (turns-left f (suc b - sends (others c now draining s).records) (others c now draining s).after)
    where
      t : Turn
      t = others c now draining s

      r : Result
      r = turns c now draining f (suc b - sends t.records) t.after

      on : t.ends ≡ false → r.left ≡ suc b - sends t.records - sends r.records
          → (turns c now draining (suc f) (suc b) s).left ≡ suc b - sends (turns c now draining (suc f) (suc b) s).records
      on e ih = rw (turns-on f b s e, sends-append) (omega arith)

      go : Paid t → r.left ≡ suc b - sends t.records - sends r.records
          → (turns c now draining (suc f) (suc b) s).left ≡ suc b - sends (turns c now draining (suc f) (suc b) s).records
      go (stop e z l) ih = rw (turns-end f b s e) (omega arith)
      go (one e z l) ih = on e ih
      go (two x y e q i j d) ih = on e ih

  pub split-left : (p : ℕ) (s : Sender) → (split c now draining p s).left ≡ p - sends (split c now draining p s).records
  unfolding split sweep
  split-left zero s = refl
  split-left (suc p) s =
      rw (sends-append, dropped-none (late c now s.packets) s) (omega (arith, turns-left (suc p) (suc p) (sweep c now s).after))
