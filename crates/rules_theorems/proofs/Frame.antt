-- Every turn of a run keeps the frame: next unsent lies between the front and one past the back, the loss list ascends
-- between the front and next unsent. `rule_applies` says what holds if a rule is the first that applies; each rule is
-- then treated by itself.
use Rattle.std.specs.Prelude.{Option, None, Some}
use mathlib.Core.Path.{◌∙◌, ◌≡◌, refl, sym}
use mathlib.Core.Bool.{Bool, ◌&&◌, false, true, true≢false}
use mathlib.Core.List.{List, [], ◌∷◌}
use Prim.Native.Nat.{◌%◌, ◌+◌, ◌-◌, ◌≤◌, suc, zero, ℕ}
use native.Mathlib.Omega.{arith}
use lib.Dec.{eqb, ltb}
use lib.ListN.{length, length-drop, length-set, take}
use borrow.Author.Tests.{eq-eqb, eqb-true, ltb-false, ltb-true}
use Rattle.laws.specs.Ascending.{Ascends, widen}
use Rattle.laws.specs.Bools.{and_l, and_r, and_both}
use Rattle.rules.specs.Numbers.{wire}
use Rattle.rules.specs.Records.{ByLoss, ByTime, Kind, Send, sends}
use Rattle.rules.specs.Run.{Rule, Turn, dropped, due, extra, first, flush, flushed, input, is_late, late, late_from, loop, loss, obey, others, rule, send, sent, unsent, window}
use Rattle.rules.specs.Sender.{Packet, Sender, end, from, remove, sent_of, wire_sizes}
use Rattle.rules.specs.Settings.{Settings}
use Rattle.rules_theorems.specs.Laws.BookRules.{Good}
use Rattle.rules_theorems.specs.Laws.Run.{Applies, is_due, turns}
use Rattle.rules_theorems.proofs.Lists.{from-ascends}

pub remove-good : (k b : ℕ) (s : Sender) → k ≤ length s.packets → Good s → Good (remove k b s)
remove-good k b s h g = record {
  low = omega arith;
  high = simp length-drop (omega arith);
  lost =
      widen (from (s.front + k) s.lost) (omega arith) (omega arith)
      (from-ascends s.front s.next (s.front + k) s.lost g.lost);
}

module _ (c : Settings) (now : ℕ) where
  pub sent-length : (s : Sender) (n : ℕ) → length (sent now s n) ≡ length s.packets
  unfolding sent
  sent-length s n = length-set s.packets _ _

  module _ (draining : Bool) where
    pub rule_applies : (s : Sender) → Applies c now draining (rule c now draining s) s
    unfolding rule first
    rule_applies s =
        go s.lost refl (is_due c now draining s) refl (ltb c.flow (sent_of s)) refl (ltb s.next (end s)) refl
        (draining && eqb (length s.packets) 1) refl
      where
        go : (l : List ℕ) → s.lost ≡ l → (o : Option ℕ) → is_due c now draining s ≡ o → (w : Bool) → ltb c.flow (sent_of s) ≡ w
            → (m : Bool) → ltb s.next (end s) ≡ m → (d : Bool) → (draining && eqb (length s.packets) 1) ≡ d
            → Applies c now draining (first l o w m d) s
        go (x ∷ xs) p o q w r m t d u = p
        go [] p (Some n) q w r m t d u = (p, q)
        go [] p None q true r m t d u = (p, q, ltb-true _ _ r)
        go [] p None q false r true t d u = (p, q, ltb-false _ _ r, ltb-true _ _ t)
        go [] p None q false r false t true u =
            (p, q, ltb-false _ _ r, ltb-false _ _ t, and_l draining _ u, eqb-true _ _ (and_r draining (eqb (length s.packets) 1) u))
        go [] p None q false r false t false u = (
          p,
          q,
          ltb-false _ _ r,
          ltb-false _ _ t,
          λ v. true≢false
              (sym (and_both draining (eqb (length s.packets) 1) v.0 (eq-eqb _ _ v.1)) ∙ u),
        )

    pub send-good : (k : Kind) (n m : ℕ) (l : List ℕ) (s : Sender) → s.front ≤ m → m ≤ end s → Ascends s.front m l
        → Good (send c now draining k n m l s).after
    unfolding send
    send-good k n m l s p q h = record { low = p; high = rw (sent-length s n) q; lost = h }

    pub extra-good : (t : Turn) → Good t.after → Good (extra c now draining t).after
    unfolding extra
    extra-good t g = go (eqb (wire t.after.next % 16) 0 && ltb t.after.next (end t.after)) refl
      where
        go : (b : Bool) → (eqb (wire t.after.next % 16) 0 && ltb t.after.next (end t.after)) ≡ b
            → Good (extra c now draining t).after
        go true e = rw (e, extra) (send-good Send t.after.next (suc t.after.next) t.after.lost t.after
            (omega arith) (ltb-true _ _ (and_r (eqb (wire t.after.next % 16) 0) (ltb t.after.next (end t.after)) e))
            (widen t.after.lost (omega arith) (omega arith) g.lost))
        go false e = rw (e, extra) g

    pub obey-good : (r : Rule) (s : Sender) → Applies c now draining r s → Good s → Good (obey c now draining r s).after
    unfolding obey flushed
    obey-good (loss x xs) s h g =
        let a : Ascends s.front s.next (x ∷ xs) = rw h at g.lost in
        send-good ByLoss x s.next xs s g.low g.high (widen xs (omega arith) (omega arith) a.2)
    obey-good (due n) s h g = send-good ByTime n s.next s.lost s g.low g.high g.lost
    obey-good window s h g = g
    obey-good unsent s h g =
        extra-good (send c now draining Send s.next (suc s.next) s.lost s)
        (send-good Send s.next (suc s.next) s.lost s (omega arith) h.3 (widen s.lost (omega arith) (omega arith) g.lost))
    obey-good flush s h g =
        let r = remove-good 1 (s.bytes - wire_sizes c (take 1 s.packets)) s (omega arith) g in
        record { low = r.low; high = r.high; lost = r.lost }
    obey-good input s h g = g

    pub turns-good : (f b : ℕ) (s : Sender) → Good s → Good (turns c now draining f b s).after
    unfolding loop others
    turns-good zero b s g = g
    turns-good (suc f) zero s g = g
    turns-good (suc f) (suc b) s g =
        go (others c now draining s).ends refl
        (turns-good f _ (others c now draining s).after (obey-good (rule c now draining s) s (rule_applies s) g))
      where
        go : (e : Bool) → (others c now draining s).ends ≡ e
            → Good (turns c now draining f (suc b - sends (others c now draining s).records) (others c now draining s).after).after
            → Good (turns c now draining (suc f) (suc b) s).after
        go true e ih = rw (e, loop) (obey-good (rule c now draining s) s (rule_applies s) g)
        go false e ih = rw (e, loop) ih

  pub late_from-le : (m : ℕ) (ps : List Packet) → late_from c now m ps ≤ length ps
  unfolding late_from
  late_from-le m [] = omega arith
  late_from-le m (p ∷ ps) = go (is_late c now p) refl (eqb p.message m) refl (late_from-le p.message ps) (late_from-le m ps)
    where
      go : (b : Bool) → is_late c now p ≡ b → (d : Bool) → eqb p.message m ≡ d → late_from c now p.message ps ≤ length ps
          → late_from c now m ps ≤ length ps → late_from c now m (p ∷ ps) ≤ suc (length ps)
      go true e d f h i = rw (e, late_from) (omega arith)
      go false e true f h i = rw (e, f, late_from) (omega arith)
      go false e false f h i = rw (e, f, late_from) (omega arith)

  pub late-le : (ps : List Packet) → late c now ps ≤ length ps
  unfolding late
  late-le [] = omega arith
  late-le (p ∷ ps) = go (is_late c now p) refl (late_from-le p.message ps)
    where
      go : (b : Bool) → is_late c now p ≡ b → late_from c now p.message ps ≤ length ps → late c now (p ∷ ps) ≤ suc (length ps)
      go true e h = rw (e, late) (omega arith)
      go false e h = rw (e, late) (omega arith)

  pub dropped-good : (k : ℕ) (s : Sender) → k ≤ length s.packets → Good s → Good (dropped c now k s).after
  unfolding dropped
  dropped-good zero s h g = g
  dropped-good (suc k) s h g = remove-good (suc k) s.bytes s h g
