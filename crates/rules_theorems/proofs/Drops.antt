-- The late drop: it happens at most once in a run, first, and exactly if the front is late; it removes only packets
-- that are late or of the same message as the last late one before them. Full times are compared, so no rollover of the
-- stamp matters.
use mathlib.Core.Path.{◌≡◌, ap, refl}
use mathlib.Core.Bool.{Bool, ◌&&◌, false, true}
use mathlib.Core.List.{List, [], ◌++◌, ◌∷◌}
use mathlib.Core.Logic.{◌↔◌}
use Prim.Native.Nat.{◌%◌, ◌+◌, ◌-◌, ◌<◌, ◌≤◌, min, suc, zero, ℕ}
use native.Mathlib.Omega.{arith}
use lib.Dec.{eqb, ltb}
use lib.ListN.{get_or}
use borrow.Author.Tests.{eqb-true, ltb-false, ltb-true}
use Rattle.rules.specs.Numbers.{wire}
use Rattle.rules.specs.Records.{Action, Send, drop_record, send_record, sends, wait_ack, wait_input}
use Rattle.rules.specs.Run.{Result, Rule, Turn, dropped, due, extra, flush, input, is_late, late, late_from, loop, loss, obey, others, rule, run, send, unsent, window}
use Rattle.rules.specs.Sender.{Packet, Sender, end, nothing}
use Rattle.rules.specs.Settings.{Settings, late_window}
use Rattle.rules_theorems.specs.Demands.Drops.{Overdue, drops, following, itself}
use Rattle.rules_theorems.specs.Laws.Run.{split, sweep, turns}
use Rattle.rules_theorems.proofs.Split.{loop-end, loop-on, run_is}

pub drops-append : (rs qs : List Action) → drops (rs ++ qs) ≡ drops rs + drops qs
drops-append [] qs = omega arith
drops-append (a ∷ rs) qs = omega (arith, drops-append rs qs)

module _ (c : Settings) (now : ℕ) where
  pub late-front : (q : Packet) (qs : List Packet) → (1 ≤ late c now (q ∷ qs)) ↔ (q.time + late_window c < now)
  unfolding late
  late-front q qs = go (is_late c now q) refl
    where
      go : (b : Bool) → is_late c now q ≡ b → (1 ≤ late c now (q ∷ qs)) ↔ (q.time + late_window c < now)
      go true e = rw (e, late) (λ h. ltb-true _ _ e, λ h. omega arith)
      go false e = rw (e, late) (λ h. absurd (omega arith), λ h. absurd (omega (arith, ltb-false (q.time + late_window c) now e)))

  -- `Overdue`, or of message m with none late before
  data Fits (m : ℕ) (ps : List Packet) (i : ℕ) : Type 0 where
    taken : Overdue c now ps i → Fits m ps i
    alike : ((k : ℕ) → k ≤ i → now ≤ (get_or ps k nothing).time + late_window c) → (get_or ps i nothing).message ≡ m → Fits m ps i

  -- one packet further on
  shift : (p : Packet) (ps : List Packet) (i : ℕ) → Overdue c now ps i → Overdue c now (p ∷ ps) (suc i)
  shift p ps i (itself h) = itself h
  shift p ps i (following j l h k e) = following (suc j) (omega arith) h (λ m a b. past m a b) e
    where
      past : (m : ℕ) → suc j < m → m ≤ suc i → now ≤ (get_or (p ∷ ps) m nothing).time + late_window c
      past zero a b = absurd (omega arith)
      past (suc m) a b = k m (omega arith) (omega arith)

  -- the late one is p, and message m is p's
  behind : (p : Packet) (ps : List Packet) (i : ℕ) → p.time + late_window c < now → Fits p.message ps i → Overdue c now (p ∷ ps) (suc i)
  behind p ps i h (taken o) = shift p ps i o
  behind p ps i h (alike k e) = following 0 (omega arith) h (λ m a b. past m a b) e
    where
      past : (m : ℕ) → 0 < m → m ≤ suc i → now ≤ (get_or (p ∷ ps) m nothing).time + late_window c
      past zero a b = absurd (omega arith)
      past (suc m) a b = k m (omega arith)

  -- p is not late, but of message m too
  beside : (m : ℕ) (p : Packet) (ps : List Packet) (i : ℕ) → now ≤ p.time + late_window c → Fits m ps i → Fits m (p ∷ ps) (suc i)
  beside m p ps i h (taken o) = taken (shift p ps i o)
  beside m p ps i h (alike k e) = alike (λ j l. at j l) e
    where
      at : (j : ℕ) → j ≤ suc i → now ≤ (get_or (p ∷ ps) j nothing).time + late_window c
      at zero l = h
      at (suc j) l = k j (omega arith)

  late_from-fits : (m : ℕ) (ps : List Packet) (i : ℕ) → i < late_from c now m ps → Fits m ps i
  unfolding late_from
  late_from-fits m [] i h = absurd (omega arith)
  late_from-fits m (p ∷ ps) i h =
      go (is_late c now p) refl (eqb p.message m) refl i h (λ j. late_from-fits p.message ps j) (λ j. late_from-fits m ps j)
    where
      go : (b : Bool) → is_late c now p ≡ b → (d : Bool) → eqb p.message m ≡ d → (i : ℕ) → i < late_from c now m (p ∷ ps)
          → ((j : ℕ) → j < late_from c now p.message ps → Fits p.message ps j) → ((j : ℕ) → j < late_from c now m ps → Fits m ps j)
          → Fits m (p ∷ ps) i
      go true e d f zero h ih jh = taken (itself (ltb-true _ _ e))
      go true e d f (suc i) h ih jh =
          let l : suc i < suc (late_from c now p.message ps) = rw (e, late_from) at h in
          taken (behind p ps i (ltb-true _ _ e) (ih i (omega arith)))
      go false e true f zero h ih jh = alike (λ k l. here k l) (eqb-true _ _ f)
        where
          here : (k : ℕ) → k ≤ 0 → now ≤ (get_or (p ∷ ps) k nothing).time + late_window c
          here zero l = ltb-false _ _ e
          here (suc k) l = absurd (omega arith)
      go false e true f (suc i) h ih jh =
          let l : suc i < suc (late_from c now m ps) = rw (e, f, late_from) at h in
          beside m p ps i (ltb-false _ _ e) (jh i (omega arith))
      go false e false f i h ih jh = let l : i < 0 = rw (e, f, late_from) at h in absurd (omega arith)

  -- "never a packet that is neither late itself nor of the message of the last late one before it"
  pub late_overdue : (ps : List Packet) (i : ℕ) → i < late c now ps → Overdue c now ps i
  unfolding late
  late_overdue [] i h = absurd (omega arith)
  late_overdue (p ∷ ps) i h = go (is_late c now p) refl i h
    where
      go : (b : Bool) → is_late c now p ≡ b → (i : ℕ) → i < late c now (p ∷ ps) → Overdue c now (p ∷ ps) i
      go true e zero h = itself (ltb-true _ _ e)
      go true e (suc i) h =
          let l : suc i < suc (late_from c now p.message ps) = rw (e, late) at h in
          behind p ps i (ltb-true _ _ e) (late_from-fits p.message ps i (omega arith))
      go false e i h = let l : i < 0 = rw (e, late) at h in absurd (omega arith)

  module _ (draining : Bool) where
    extra-drops : (t : Turn) → drops t.records ≡ 0 → drops (extra c now draining t).records ≡ 0
    unfolding extra send send_record
    extra-drops t h = go (eqb (wire t.after.next % 16) 0 && ltb t.after.next (end t.after)) refl
      where
        go : (b : Bool) → (eqb (wire t.after.next % 16) 0 && ltb t.after.next (end t.after)) ≡ b
            → drops (extra c now draining t).records ≡ 0
        go true e = rw (e, extra, drops-append) (omega arith)
        go false e = rw (e, extra) h

    obey-drops : (r : Rule) (s : Sender) → drops (obey c now draining r s).records ≡ 0
    unfolding obey send send_record wait_ack wait_input
    obey-drops (loss x xs) s = refl
    obey-drops (due n) s = refl
    obey-drops window s = refl
    obey-drops unsent s = extra-drops (send c now draining Send s.next (suc s.next) s.lost s) refl
    obey-drops flush s = refl
    obey-drops input s = refl

    turns-drops : (f b : ℕ) (s : Sender) → drops (turns c now draining f b s).records ≡ 0
    unfolding loop others
    turns-drops zero b s = refl
    turns-drops (suc f) zero s = refl
    turns-drops (suc f) (suc b) s =
        go (others c now draining s).ends refl
        (turns-drops f (suc b - sends (others c now draining s).records) (others c now draining s).after)
      where
        go : (e : Bool) → (others c now draining s).ends ≡ e
            → drops (turns c now draining f (suc b - sends (others c now draining s).records) (others c now draining s).after).records
            ≡ 0
            → drops (turns c now draining (suc f) (suc b) s).records ≡ 0
        go true e ih = rw (loop-end (others c now draining) f b s e) (obey-drops (rule c now draining s) s)
        go false e ih = rw (loop-on (others c now draining) f b s e, drops-append) (omega (arith, obey-drops (rule c now draining s) s))

    -- a run with a budget is the late drop, followed by records without one
    pub run-drops : (p : ℕ) (s : Sender)
        → (rest : List Action) × ((run c now draining (suc p) s).records ≡ (dropped c now (late c now s.packets) s).records ++ rest)
        × (drops rest ≡ 0)
    unfolding split sweep
    run-drops p s = (
      (turns c now draining (suc p) (suc p) (dropped c now (late c now s.packets) s).after).records,
      ap (λ (r : Result). r.records) (run_is c now draining (suc p) s),
      turns-drops (suc p) (suc p) (dropped c now (late c now s.packets) s).after,
    )

    dropped-drops : (k : ℕ) (s : Sender) → drops (dropped c now k s).records ≡ min 1 k
    unfolding dropped drop_record
    dropped-drops zero s = omega arith
    dropped-drops (suc k) s = omega arith

    -- "a run with a budget drops the front packet exactly when now is past its full time plus the late window"
    pub run-drops-front : (p : ℕ) (s : Sender) (q : Packet) (qs : List Packet) → s.packets ≡ q ∷ qs
        → (drops (run c now draining (suc p) s).records ≡ 1) ↔ (q.time + late_window c < now)
    run-drops-front p s q qs e =
        let r = run-drops p s in
        let f = late-front q qs in
        let l : late c now s.packets ≡ late c now (q ∷ qs) = ap (late c now) e in
        let n : drops (run c now draining (suc p) s).records ≡ min 1 (late c now (q ∷ qs)) =
        rw (r.1, drops-append) (omega (arith, dropped-drops (late c now s.packets) s, r.2))
        in
        (λ h. f.0 (omega arith), λ h. omega (arith, f.1 h))
