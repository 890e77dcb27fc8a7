-- What the code of a run requires and guarantees: for a turn, for rule 1, and without budget.
--   Turning                                         what a turn requires: books of a sender that keeps the book rules, room for two
--                                                   records
--   Done, Swept                                     what is left by a turn, and by rule 1
--   Runnable                                        what a run requires: "Room needed: min(p, buffered) + 3 records."
--   done-by, turn_is                                what a turn leaves, by the rule that was done
--   loss-some, due-inside, unsent-more, flush_one   what holds if a rule is the first that applies
--   swept_none, swept-some, late-few                no packet is late, or k are, and k is at most the number buffered
--   run_none                                        a run without budget
use Rattle.std.specs.Prelude.{◌≡◌, refl, Bool, true, false, ◌&&◌, List, ltb, length, Option, Some, None}
use Rattle.std.proofs.Math.Path.{sym, ap, subst}
use Rattle.std.proofs.Common.{◌∙◌, ltb-true, eqb-true}
use Prim.Native.Nat.{ℕ, zero, suc, ◌+◌, ◌*◌, ◌^◌, ◌≤◌, ◌<◌, min}
use native.Mathlib.Omega.{arith}
use Rattle.std.proofs.Math.Dec.{eqb}
use Rattle.laws.specs.Bools.{and_r}
use Rattle.rules.specs.Settings.{Settings}
use Rattle.rules.specs.Run.{late}
use Rattle.rules_theorems.proofs.Frame.{late-le}
use Rattle.buffer.specs.declared.SendBuffer.{SendBuffer}
use Rattle.buffer.specs.State.{State, state, packets_of}
use Rattle.buffer.specs.State.Facts.{stands_facts}
use Rattle.buffer.specs.State.Stands.{Ready}
use Rattle.buffer.specs.State.View.{packets-length}
use Rattle.run_choice.specs.declared.Rule.{Rule}
use Rattle.run_choice.specs.declared.Rule.TheVariants as rule
use Rattle.run_choice.specs.Choice.{rule_by, due_at, rule_at}
use Rattle.run_effects.specs.declared.Records.{Records}
use Rattle.run_effects.specs.Sending.{HasRoom, SameList, Turned, Wrote, written}
use Rattle.run_effects.specs.Sending.Rules.{Drops}
use Rattle.buffer_run.specs.Run.{walk, act, turn, swept, run}
use Rattle.buffer_run.specs.Run.Laws.{due-sent}

pub record Turning (c : Settings) (now : ℕ) (st : State) (given : Records) : Type 0 where
  pub ready : Ready c st
  pub early : now < 2 ^ 48
  pub room : HasRoom 2 given

pub record Done (c : Settings) (now : ℕ) (draining : Bool) (before : State) (given : Records) (after : State) (ends : Bool) (left : Records) : Type 0 where
  pub wrote : Wrote (turn c now draining) before given after left
  pub ended : ends ≡ (turn c now draining before).ends

-- rule 1, or nothing
pub record Swept (c : Settings) (now : ℕ) (before : State) (given : Records) (after : State) (left : Records) : Type 0 where
  pub is : (draining : Bool) (b : ℕ) → walk after left.list.now left.count b ≡ swept c now draining (walk before given.list.now given.count b)
  pub same : SameList given left

pub record Runnable (c : Settings) (now budget : ℕ) (st : State) (out : List ℕ) : Type 0 where
  pub ready : Ready c st
  pub early : now < 2 ^ 48
  pub room : (min budget st.books.ring.len + 3) * 24 ≤ length out

-- ## A turn

pub done-by : (c : Settings) (now : ℕ) (draining : Bool) (st : State) (given : Records) (after : State) (left : Records) (tn : State → Turned) (ends : Bool)
    → turn c now draining st ≡ tn st
    → ends ≡ (tn st).ends
    → Wrote tn st given after left
    → Done c now draining st given after ends left
done-by c now draining st given after left tn ends e f W = record {
  wrote = record {
    acted = record {
      state = W.acted.state ∙ sym (ap (λ (t : Turned). t.state) e);
      count = W.acted.count ∙ sym (ap (λ (t : Turned). given.count + length t.records) e);
      list = W.acted.list ∙ sym (ap (λ (t : Turned). written given.count t.records given.list.now) e);
    };
    same = W.same;
  };
  ended = f ∙ sym (ap (λ (t : Turned). t.ends) e);
}

-- what holds if a rule is the first that applies
abbrev Says : ℕ → Option ℕ → Bool → Bool → Rule → Type 0
Says n d m x rule.Loss = 0 < n
Says n d m x (rule.Due i) = d ≡ Some i
Says n d m x rule.Window = Unit {0}
Says n d m x rule.Unsent = m ≡ true
Says n d m x rule.Flush = x ≡ true
Says n d m x rule.Input = Unit {0}

says : (n : ℕ) (d : Option ℕ) (o m x : Bool) → Says n d m x (rule_by n d o m x)
unfolding rule_by
says (suc n) d o m x = omega arith
says zero (Some i) o m x = refl
says zero None true m x = tt
says zero None false true x = refl
says zero None false false true = refl
says zero None false false false = tt

module _ (c : Settings) (now : ℕ) (draining : Bool) (st : State) where
  abbrev b : SendBuffer
  b = st.books

  pub turn_is : (r : Rule) → rule_at c now draining st.books st.ring ≡ r → turn c now draining st ≡ act c now draining r st
  unfolding turn
  turn_is r e = ap (λ (x : Rule). act c now draining x st) e

  told : (r : Rule) → rule_at c now draining st.books st.ring ≡ r
      → Says b.lost (due_at now b st.ring) (ltb b.sent b.ring.len) (draining && eqb b.ring.len 1) r
  unfolding rule_at
  told r e =
      subst (λ (x : Rule). Says b.lost (due_at now b st.ring) (ltb b.sent b.ring.len) (draining && eqb b.ring.len 1) x) e
      (says b.lost (due_at now b st.ring) (ltb c.flow b.sent) (ltb b.sent b.ring.len) (draining && eqb b.ring.len 1))

  pub loss-some : rule_at c now draining st.books st.ring ≡ rule.Loss → 0 < st.books.lost
  loss-some e = told rule.Loss e

  pub due-inside : (i : ℕ) → Ready c st → now < 2 ^ 48 → rule_at c now draining st.books st.ring ≡ rule.Due i → i < st.books.ring.len
  due-inside i R early e =
      let f = stands_facts R.stands R.kept in
      let d : i < st.books.sent = due-sent now draining R.stands R.kept early i (told (rule.Due i) e) in
      omega (arith, d, f.sent)

  pub unsent-more : rule_at c now draining st.books st.ring ≡ rule.Unsent → st.books.sent < st.books.ring.len
  unsent-more e = ltb-true _ _ (told rule.Unsent e)

  pub flush_one : rule_at c now draining st.books st.ring ≡ rule.Flush → 1 ≤ st.books.ring.len
  flush_one e = let q : st.books.ring.len ≡ 1 = eqb-true _ _ (and_r draining (eqb st.books.ring.len 1) (told rule.Flush e)) in omega (arith, q)

-- ## Rule 1, and no budget

module _ (c : Settings) (now : ℕ) (b : SendBuffer) (ring lost : List ℕ) (k : ℕ) (e : k ≡ late c now (packets_of b.ring ring)) where
  pub swept_none : (given : Records) → k < 1 → Swept c now (state b ring lost) given (state b ring lost) given
  unfolding swept
  swept_none given h = let z : late c now (packets_of b.ring ring) ≡ 0 = sym e ∙ omega arith in record { is = λ draining m. rw z; same = record { name = refl; long = refl } }

  pub swept-some : (given : Records) (after : SendBuffer) (left : Records) → 1 ≤ k → Drops k b lost given after left
      → Swept c now (state b ring lost) given (state after ring lost) left
  unfolding swept
  swept-some given after left h D = go k e h D
    where
      go : (j : ℕ) → j ≡ late c now (packets_of b.ring ring) → 1 ≤ j → Drops j b lost given after left
          → Swept c now (state b ring lost) given (state after ring lost) left
      go zero p q A = absurd (omega arith)
      go (suc j) p q A = record {
        is = λ draining m.
            let a = (A.is ring).acted in
            rw (← p) (rw (a.state, a.list, a.count));
        same = (A.is ring).same;
      }

  pub late-few : k ≤ b.ring.len
  late-few = let f = late-le c now (packets_of b.ring ring) in let n = packets-length b.ring ring in omega (arith, e, f, n)

pub run_none : (c : Settings) (now : ℕ) (draining : Bool) (p : ℕ) (st : State) (out : List ℕ) → p < 1 → walk st out 0 0 ≡ run c now draining p st out
unfolding run
run_none c now draining zero st out h = refl
run_none c now draining (suc p) st out h = absurd (omega arith)
