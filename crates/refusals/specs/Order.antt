-- What follows from the order of refusals: of the tests that hold, the one whose refusal stands first in the list decides.
--   Each P ts                    P of each test
--   Decides ts r, first-decides  r is the refusal of a test that holds, and no test before that one holds
--   first-accepts, none-accepts  a call is accepted exactly if no test holds
--   first-least                  no test that holds has a refusal that stands before the one that is told
--   first-joined                 tests after tests: the later ones decide where the earlier ones accept
use Rattle.std.specs.Prelude.{◌≡◌, refl, Bool, true, false, List, [], ◌∷◌, ◌++◌, ◌≤◌, leb, Err}
use Rattle.std.proofs.Common.{sym, ap, ◌∙◌, true≢false, arith, leb-true}
use Rattle.std.proofs.Math.Bool.{and-eq-true_iff}
use Rattle.rules_refusals.specs.declared.Refusal.{Refusal}
use Rattle.rules_refusals.specs.Verdict.{Verdict, accepted, refused, when, answer}
use Rattle.rules_refusals.specs.Order.{Test, test, place, first_of, none_before, in_order}
use Rattle.refusals.specs.Laws.{never}

abbrev pub Each : (Test → Type 0) → List Test → Type 0
Each P [] = Unit {0}
Each P (t ∷ ts) = P t × Each P ts

each : (P Q : Test → Type 0) → ((t : Test) → P t → Q t) → (ts : List Test) → Each P ts → Each Q ts
each P Q f [] e = tt
each P Q f (t ∷ ts) e = (f t e.0, each P Q f ts e.1)

pub record Decides (ts : List Test) (r : Refusal) : Type 0 where
  pub earlier : List Test
  pub later : List Test
  pub is : ts ≡ earlier ++ (test true r ∷ later)
  pub none : Each (λ (t : Test). t.holds ≡ false) earlier

-- the verdict of a chain, by whether its first test holds
same : (r q : Refusal) → refused r ≡ refused q → r ≡ q
same r q e = ap (λ (v : Verdict). answer (λ x. x) v r) e

pub first-decides : (ts : List Test) (r : Refusal) → first_of ts ≡ Err r → Decides ts r
unfolding first_of
first-decides [] r e = never r (sym e)
first-decides (t ∷ ts) r e = go t.holds refl (λ k. first-decides ts r k) e
  where
    go : (b : Bool) → t.holds ≡ b → (first_of ts ≡ Err r → Decides ts r) → when b t.refusal (first_of ts) ≡ Err r → Decides (t ∷ ts) r
    go true h rest k = record { earlier = []; later = ts; is = ap (λ (x : Test). x ∷ ts) (rw (h, same t.refusal r k)); none = tt }
    go false h rest k =
        let D = rest k in
        record { earlier = t ∷ D.earlier; later = D.later; is = ap (λ (l : List Test). t ∷ l) D.is; none = (h, D.none) }

pub first-accepts : (ts : List Test) → first_of ts ≡ accepted → Each (λ (t : Test). t.holds ≡ false) ts
unfolding first_of
first-accepts [] e = tt
first-accepts (t ∷ ts) e = go t.holds refl (λ k. first-accepts ts k) e
  where
    go : (b : Bool) → t.holds ≡ b → (first_of ts ≡ accepted → Each (λ (u : Test). u.holds ≡ false) ts)
        → when b t.refusal (first_of ts) ≡ accepted
        → (t.holds ≡ false) × Each (λ (u : Test). u.holds ≡ false) ts
    go true h rest k = never t.refusal k
    go false h rest k = (h, rest k)

pub none-accepts : (ts : List Test) → Each (λ (t : Test). t.holds ≡ false) ts → first_of ts ≡ accepted
unfolding first_of
none-accepts [] e = refl
none-accepts (t ∷ ts) e = rw e.0 (none-accepts ts e.1)

-- r stands before, or where, the refusals of the tests stand
behind : (r : Refusal) (ts : List Test) → none_before r ts ≡ true → Each (λ (t : Test). place r ≤ place t.refusal) ts
unfolding none_before
behind r [] e = tt
behind r (t ∷ ts) e =
    let both = (and-eq-true_iff (leb (place r) (place t.refusal)) (none_before r ts)).0 e in
    (leb-true _ _ both.0, behind r ts both.1)

pub first-least : (ts : List Test) (r : Refusal) → in_order ts ≡ true → first_of ts ≡ Err r
    → Each (λ (t : Test). t.holds ≡ true → place r ≤ place t.refusal) ts
unfolding first_of in_order
first-least [] r o e = tt
first-least (t ∷ ts) r o e = go t.holds refl (λ p k. first-least ts r p k) e
  where
    both : (none_before t.refusal ts ≡ true) × (in_order ts ≡ true)
    both = (and-eq-true_iff (none_before t.refusal ts) (in_order ts)).0 o

    go : (b : Bool) → t.holds ≡ b
        → (in_order ts ≡ true → first_of ts ≡ Err r → Each (λ (u : Test). u.holds ≡ true → place r ≤ place u.refusal) ts)
        → when b t.refusal (first_of ts) ≡ Err r
        → (t.holds ≡ true → place r ≤ place t.refusal) × Each (λ (u : Test). u.holds ≡ true → place r ≤ place u.refusal) ts
    go true h rest k =
        let is = same t.refusal r k in (
          λ q. rw is (omega arith),
          each (λ (u : Test). place t.refusal ≤ place u.refusal) (λ (u : Test). u.holds ≡ true → place r ≤ place u.refusal)
              (λ u p q. rw (← is) p) ts (behind t.refusal ts both.0),
        )
    go false h rest k = (λ q. absurd (true≢false (sym q ∙ h)), rest both.1 k)

pub first-joined : (ts us : List Test) → first_of (ts ++ us) ≡ answer Err (first_of ts) (first_of us)
unfolding first_of
first-joined [] us = refl
first-joined (t ∷ ts) us = go t.holds (first-joined ts us)
  where
    go : (b : Bool) → first_of (ts ++ us) ≡ answer Err (first_of ts) (first_of us)
        → when b t.refusal (first_of (ts ++ us)) ≡ answer Err (when b t.refusal (first_of ts)) (first_of us)
    go true rest = refl
    go false rest = rest
