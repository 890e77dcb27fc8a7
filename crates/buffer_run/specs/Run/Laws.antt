-- A turn on books that represent a sender is the turn of that sender in the rules.
--   due-sent      the packet that rule 3 chooses is a sent one
--   turn-stands   any turn of rules 2 to 7
pub mod Whole
use Rattle.std.specs.Prelude.{◌≡◌, ◌&&◌, cond, ℕ, suc, ◌+◌, ◌^◌, ◌≤◌, ◌<◌, length, take, Option, Some, None}
use Rattle.std.proofs.Math.Path.{refl}
use Rattle.std.proofs.Common.{sym, ap, ◌∙◌, subst, arith}
use Rattle.std.proofs.Math.Bool.{Bool, true, false}
use mathlib.Core.List.{List, [], ◌∷◌}
use Rattle.std.proofs.Math.Dec.{ltb, eqb}
use borrow.Author.Tests.{ltb-true, eqb-true}
use Rattle.laws.specs.Bools.{and_r}
use Rattle.rules.specs.Settings.{Settings}
use Rattle.rules.specs.Sender.{Packet, Sender, end, sent_of}
use Rattle.rules_theorems.specs.Laws.BookRules.{Kept}
use Rattle.rules.specs.Run as Rules
use Rattle.rules.specs.Run.{Turn, earliest, or_here}
use Rattle.rules_theorems.specs.Laws.Run.{is_due}
use Rattle.rules_theorems.proofs.None.{due-some}
use Rattle.rules_theorems.proofs.RunKept.{first-kept}
use Rattle.buffer.specs.State.{State}
use Rattle.buffer.specs.State.Stands.{Stands}
use Rattle.buffer.specs.State.Reports.{ltb-add}
use Rattle.run_choice.specs.Choice.{rule_by, due_at, rule_at}
use Rattle.buffer_run.specs.Run.{act, turn}
use Rattle.run_effects.specs.Sending.Stands.{TurnStands, few, loss_refines, due_refines, window_refines, next_refines, unsent_refines, flush_refines, input_refines}

abbrev shift : ℕ → Option ℕ → Option ℕ
shift f None = None
shift f (Some i) = Some (f + i)

or-shift : (f n : ℕ) (o : Option ℕ) → or_here (f + n) (shift f o) ≡ shift f (or_here n o)
unfolding or_here
or-shift f n None = refl
or-shift f n (Some i) = refl

earliest-shift : (f now n : ℕ) (ps : List Packet) → earliest now (f + n) ps ≡ shift f (earliest now n ps)
unfolding earliest
earliest-shift f now n [] = refl
earliest-shift f now n (p ∷ ps) =
    let step : f + suc n ≡ suc (f + n) = omega arith in
    go (ltb p.resend now) (rw step at (earliest-shift f p.resend (suc n) ps)) (rw step at (earliest-shift f now (suc n) ps))
  where
    go : (b : Bool) → earliest p.resend (suc (f + n)) ps ≡ shift f (earliest p.resend (suc n) ps)
        → earliest now (suc (f + n)) ps ≡ shift f (earliest now (suc n) ps)
        → cond b (or_here (f + n) (earliest p.resend (suc (f + n)) ps)) (earliest now (suc (f + n)) ps)
        ≡ shift f (cond b (or_here n (earliest p.resend (suc n) ps)) (earliest now (suc n) ps))
    go true here later = ap (or_here (f + n)) here ∙ or-shift f n (earliest p.resend (suc n) ps)
    go false here later = later

module _ {c : Settings} (now : ℕ) (draining : Bool) where
  module _ {st : State} {s : Sender} (S : Stands c st s) (K : Kept c s) (early : now < 2 ^ 48) where
    n : st.books.sent ≡ sent_of s
    n = omega (arith, S.next)

    due-is : is_due c now draining s ≡ shift s.front (due_at now st.books st.ring)
    due-is =
        let z : s.front + 0 ≡ s.front = omega arith in
        rw (n, S.packets) (rw z at (earliest-shift s.front now 0 (take (sent_of s) s.packets)))

    more-is : ltb s.next (end s) ≡ ltb st.books.sent st.books.ring.len
    more-is = rw (few S, S.next) (ltb-add s.front st.books.sent (length s.packets))

    pub due-sent : (i : ℕ) → due_at now st.books st.ring ≡ Some i → i < st.books.sent
    due-sent i e = let d = due-some c now draining s K.good (s.front + i) (due-is ∙ ap (shift s.front) e) in omega (arith, d.1, S.next)

    by-rule : (l : List ℕ) → s.lost ≡ l → (d : Option ℕ) → due_at now st.books st.ring ≡ d → (o : Bool)
        → (m : Bool) → (m ≡ true → st.books.sent < st.books.ring.len)
        → (x : Bool) → (x ≡ true → 1 ≤ st.books.ring.len)
        → TurnStands c (act c now draining (rule_by (length l) d o m x) st) (Rules.obey c now draining (Rules.first l (shift s.front d) o m x) s)
    unfolding act rule_by Rules.first Rules.obey Rules.send
    by-rule (y ∷ ys) e d g o m more x one = loss_refines S K now draining y ys e
    by-rule [] e (Some i) g o m more x one = due_refines S K now draining i (due-sent i g)
    by-rule [] e None g true m more x one = window_refines S K now draining
    by-rule [] e None g false true more x one =
        unsent_refines now draining st (next_refines S K now draining (more refl))
        (first-kept c now draining early s (let h = more refl in omega (arith, h, few S, S.next)) K) refl
    by-rule [] e None g false false more true one = flush_refines S K now draining (one refl)
    by-rule [] e None g false false more false one = input_refines S K now draining

    pub turn-stands : TurnStands c (turn c now draining st) (Rules.others c now draining s)
    unfolding turn rule_at Rules.others Rules.rule
    turn-stands =
        let m : Bool = ltb st.books.sent st.books.ring.len in
        let x : Bool = draining && eqb st.books.ring.len 1 in
        let u : Turn = Rules.obey c now draining (Rules.first s.lost (shift s.front (due_at now st.books st.ring)) (ltb c.flow st.books.sent) m x) s in
        rw (due-is, more-is, ← n, ← few S)
        (subst (λ (k : ℕ). TurnStands c (act c now draining (rule_by k (due_at now st.books st.ring) (ltb c.flow st.books.sent) m x) st) u) (sym S.count)
        (by-rule s.lost refl (due_at now st.books st.ring) refl (ltb c.flow st.books.sent) m (λ e. ltb-true st.books.sent st.books.ring.len e)
        x (λ e. let q : st.books.ring.len ≡ 1 = eqb-true _ _ (and_r draining (eqb st.books.ring.len 1) e) in omega (arith, q))))
