-- Rule 1 applies at most once in a run, at its start: after the drop the front is not late, no other rule changes that,
-- so the run is the late drop followed by the loop over rules 2 to 7 (`run_is`).
use mathlib.Core.Path.{◌∙◌, ◌≡◌, refl, sym}
use mathlib.Core.Bool.{Bool, ◌&&◌, false, true}
use mathlib.Core.List.{List, [], ◌∷◌}
use Prim.Native.Nat.{◌%◌, ◌-◌, ◌≤◌, suc, zero, ℕ}
use native.Mathlib.Omega.{arith}
use native.Mathlib.Nat.{sub-zero}
use lib.Dec.{eqb, ltb}
use lib.ListN.{drop, drop_of_length-le, get_or, set}
use Rattle.rules.specs.Numbers.{wire}
use Rattle.rules.specs.Records.{ByLoss, ByTime, Kind, Send, sends}
use Rattle.rules.specs.Run.{Rule, Turn, dropped, due, extra, flush, flushed, input, is_late, join, late, late_from, loop, loss, obey, others, rule, run, send, sent, stamped, turn, turn_by, unsent, window}
use Rattle.rules.specs.Sender.{Packet, Sender, end, nothing, packet}
use Rattle.rules.specs.Settings.{Settings}
use Rattle.rules_theorems.specs.Laws.Run.{Applies, Paid, one, split, stop, sweep, turns, two}
use Rattle.rules_theorems.proofs.Frame.{rule_applies}
use Rattle.rules_theorems.proofs.Sends.{dropped-none, turn-paid}

module _ (turn : Sender → Turn) where
  pub loop-end : (f b : ℕ) (s : Sender) → (turn s).ends ≡ true
      → loop turn (suc f) (suc b) s ≡ record { records = (turn s).records; after = (turn s).after; left = suc b }
  unfolding loop
  loop-end f b s e = rw (e, loop)

  pub loop-on : (f b : ℕ) (s : Sender) → (turn s).ends ≡ false
      → loop turn (suc f) (suc b) s ≡ join (turn s) (loop turn f (suc b - sends (turn s).records) (turn s).after)
  unfolding loop
  loop-on f b s e = rw (e, loop)

module _ (c : Settings) (now : ℕ) where
  -- ## The front is not late after a drop

  not_late : (p : Packet) (ps : List Packet) → is_late c now p ≡ false → late c now (p ∷ ps) ≡ 0
  unfolding late
  not_late p ps e = rw (e, late)

  head_not-late : (p : Packet) (ps : List Packet) → late c now (p ∷ ps) ≡ 0 → is_late c now p ≡ false
  unfolding late
  head_not-late p ps h = go (is_late c now p) refl
    where
      go : (b : Bool) → is_late c now p ≡ b → is_late c now p ≡ false
      go true e = absurd (omega (arith, rw (e, late) at h))
      go false e = e

  late_from-rest : (m : ℕ) (ps : List Packet) → late c now (drop (late_from c now m ps) ps) ≡ 0
  unfolding late_from late
  late_from-rest m [] = refl
  late_from-rest m (p ∷ ps) = go (is_late c now p) refl (eqb p.message m) refl (late_from-rest p.message ps) (late_from-rest m ps)
    where
      go : (b : Bool) → is_late c now p ≡ b → (d : Bool) → eqb p.message m ≡ d
          → late c now (drop (late_from c now p.message ps) ps) ≡ 0 → late c now (drop (late_from c now m ps) ps) ≡ 0
          → late c now (drop (late_from c now m (p ∷ ps)) (p ∷ ps)) ≡ 0
      go true e d f h i = rw (e, late_from) h
      go false e true f h i = rw (e, f, late_from) i
      go false e false f h i = rw (e, f, late_from) (not_late p ps e)

  late-rest : (ps : List Packet) → late c now (drop (late c now ps) ps) ≡ 0
  unfolding late
  late-rest [] = refl
  late-rest (p ∷ ps) = go (is_late c now p) refl
    where
      go : (b : Bool) → is_late c now p ≡ b → late c now (drop (late c now (p ∷ ps)) (p ∷ ps)) ≡ 0
      go true e = rw (e, late) (late_from-rest p.message ps)
      go false e = rw (not_late p ps e) (not_late p ps e)

  -- ## and stays so

  late-set : (ps : List Packet) (i : ℕ) (x : Packet) → x.time ≡ (get_or ps i nothing).time → late c now ps ≡ 0 → late c now (set ps i x) ≡ 0
  late-set [] i x e h = h
  late-set (p ∷ ps) zero x e h = not_late x ps (rw e (head_not-late p ps h))
  late-set (p ∷ ps) (suc i) x e h = not_late p (set ps i x) (head_not-late p ps h)

  module _ (draining : Bool) where
    send-late : (k : Kind) (n m : ℕ) (l : List ℕ) (s : Sender) → late c now s.packets ≡ 0
        → late c now (send c now draining k n m l s).after.packets ≡ 0
    unfolding send sent stamped packet
    send-late k n m l s h = late-set s.packets (n - s.front) _ refl h

    extra-late : (t : Turn) → late c now t.after.packets ≡ 0 → late c now (extra c now draining t).after.packets ≡ 0
    unfolding extra
    extra-late t h = go (eqb (wire t.after.next % 16) 0 && ltb t.after.next (end t.after)) refl
      where
        go : (b : Bool) → (eqb (wire t.after.next % 16) 0 && ltb t.after.next (end t.after)) ≡ b
            → late c now (extra c now draining t).after.packets ≡ 0
        go true e = rw (e, extra) (send-late Send t.after.next (suc t.after.next) t.after.lost t.after h)
        go false e = rw (e, extra) h

    obey-late : (r : Rule) (s : Sender) → Applies c now draining r s → late c now s.packets ≡ 0
        → late c now (obey c now draining r s).after.packets ≡ 0
    unfolding obey late flushed
    obey-late (loss x xs) s a h = send-late ByLoss x s.next xs s h
    obey-late (due n) s a h = send-late ByTime n s.next s.lost s h
    obey-late window s a h = h
    obey-late unsent s a h =
        extra-late (send c now draining Send s.next (suc s.next) s.lost s) (send-late Send s.next (suc s.next) s.lost s h)
    obey-late flush s a h = rw (drop_of_length-le s.packets {i = 1} (omega arith))
    obey-late input s a h = h

    turn_is : (s : Sender) → late c now s.packets ≡ 0 → turn c now draining s ≡ others c now draining s
    unfolding turn turn_by
    turn_is s h = rw (h, turn)

    -- if the front is not late, the two loops are the same
    loops_agree : (f b : ℕ) (s : Sender) → late c now s.packets ≡ 0 → loop (turn c now draining) f b s ≡ turns c now draining f b s
    unfolding loop others
    loops_agree zero b s h = refl
    loops_agree (suc f) zero s h = refl
    loops_agree (suc f) (suc b) s h =
        go (others c now draining s).ends refl
        (loops_agree f (suc b - sends (others c now draining s).records) (others c now draining s).after
        (obey-late (rule c now draining s) s (rule_applies c now draining s) h))
      where
        t : Turn
        t = others c now draining s

        go : (e : Bool) → t.ends ≡ e
            → loop (turn c now draining) f (suc b - sends t.records) t.after
            ≡ turns c now draining f (suc b - sends t.records) t.after
            → loop (turn c now draining) (suc f) (suc b) s ≡ turns c now draining (suc f) (suc b) s
        go true e ih =
            loop-end (turn c now draining) f b s (rw (turn_is s h) e) ∙ rw (turn_is s h) (sym (loop-end (others c now draining) f b s e))
        go false e ih =
            loop-on (turn c now draining) f b s (rw (turn_is s h) e) ∙ rw (turn_is s h, ih) (sym (loop-on (others c now draining) f b s e))

    -- more fuel than budget changes nothing
    fuel : (f g b : ℕ) (s : Sender) → b ≤ f → b ≤ g → turns c now draining f b s ≡ turns c now draining g b s
    unfolding loop
    fuel zero zero b s h k = refl
    fuel zero (suc g) zero s h k = refl
    fuel zero (suc g) (suc b) s h k = absurd (omega arith)
    fuel (suc f) zero zero s h k = refl
    fuel (suc f) zero (suc b) s h k = absurd (omega arith)
    fuel (suc f) (suc g) zero s h k = refl
    fuel (suc f) (suc g) (suc b) s h k =
        go (turn-paid c now draining s) (fuel f g (suc b - sends (others c now draining s).records) (others c now draining s).after)
      where
        t : Turn
        t = others c now draining s

        n : ℕ
        n = suc b - sends t.records

        on : t.ends ≡ false → n ≤ b → (n ≤ f → n ≤ g → turns c now draining f n t.after ≡ turns c now draining g n t.after)
            → turns c now draining (suc f) (suc b) s ≡ turns c now draining (suc g) (suc b) s
        on e l ih =
            loop-on (others c now draining) f b s e ∙ rw (ih (omega arith) (omega arith)) (sym (loop-on (others c now draining) g b s e))

        go : Paid t → (n ≤ f → n ≤ g → turns c now draining f n t.after ≡ turns c now draining g n t.after)
            → turns c now draining (suc f) (suc b) s ≡ turns c now draining (suc g) (suc b) s
        go (stop e z l) ih = loop-end (others c now draining) f b s e ∙ sym (loop-end (others c now draining) g b s e)
        go (one e z l) ih = on e (omega arith) ih
        go (two x y e q i j d) ih = on e (rw q (omega arith)) ih

    dropped-on : (k : ℕ) (s : Sender) → (dropped c now k s).ends ≡ false
    unfolding dropped
    dropped-on zero s = refl
    dropped-on (suc k) s = refl

    sweep-late : (k : ℕ) (s : Sender) → late c now s.packets ≡ k → late c now (dropped c now k s).after.packets ≡ 0
    unfolding dropped
    sweep-late zero s e = e
    sweep-late (suc k) s e = rw e at (late-rest s.packets)

    turn-sweep : (k : ℕ) (s : Sender) → late c now s.packets ≡ suc k → turn c now draining s ≡ dropped c now (suc k) s
    unfolding turn turn_by
    turn-sweep k s e = rw (e, turn)

    run-late : (p k : ℕ) (s : Sender) → late c now s.packets ≡ suc k
        → loop (turn c now draining) (suc (suc p)) (suc p) s
        ≡ join (dropped c now (suc k) s) (turns c now draining (suc p) (suc p) (dropped c now (suc k) s).after)
    run-late p k s e =
        loop-on (turn c now draining) (suc p) p s (rw (turn-sweep k s e) (dropped-on (suc k) s))
        ∙ rw (
          turn-sweep k s e,
          dropped-none c now draining (suc k) s,
          sub-zero (suc p),
          loops_agree (suc p) (suc p)
              (dropped c now (suc k) s).after (sweep-late (suc k) s e),
        )

    run-not-late : (p : ℕ) (s : Sender) → late c now s.packets ≡ 0
        → loop (turn c now draining) (suc (suc p)) (suc p) s ≡ turns c now draining (suc p) (suc p) s
    run-not-late p s e = loops_agree (suc (suc p)) (suc p) s e ∙ fuel (suc (suc p)) (suc p) (suc p) s (omega arith) (omega arith)

    split_by : (p k : ℕ) (s : Sender) → late c now s.packets ≡ k
        → loop (turn c now draining) (suc (suc p)) (suc p) s
        ≡ join (dropped c now k s) (turns c now draining (suc p) (suc p) (dropped c now k s).after)
    unfolding dropped
    split_by p zero s e = run-not-late p s e
    split_by p (suc k) s e = run-late p k s e

    pub run_is : (p : ℕ) (s : Sender) → run c now draining p s ≡ split c now draining p s
    unfolding run split sweep loop
    run_is zero s = refl
    run_is (suc p) s = split_by p (late c now s.packets) s refl
