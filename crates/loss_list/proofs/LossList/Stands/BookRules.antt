-- The book rules of the loss list, in the area and in the rules; and the room that sent numbers need.
--   stands-keeps, keeps-stands   the area's check is that of the rules, both ways: a list that passes it represents the
--                                numbers `seen`
--   keeps-ascends                and those ascend, as the rules require
use Rattle.std.specs.Prelude.{◌≡◌, refl, true, List, [], ◌∷◌, ◌++◌, ℕ, suc, ◌+◌, ◌-◌, ◌^◌, ◌≤◌, ltb}
use Rattle.std.proofs.Common.{sym, ap, ◌∙◌, append-nil, arith, lt-ltb, ltb-true}
use Rattle.std.proofs.Math.Bool.{and-eq-true_iff}
use Rattle.std.proofs.Math.Seq.{append_snoc}
use Rattle.laws.specs.Ascending.{Ascends, widen, ascends_snoc}
use Rattle.rules_theorems.specs.Laws.BookRules.{facts_ascends}
use Rattle.rules_numbers.specs.Modular.{seqs}
use Rattle.rules_numbers.specs.Modular.Laws.{plus-dist}
use Rattle.rules.specs.Numbers.{wire}
use Rattle.rules_theorems.specs.Laws.Numbers.{wire-below}
use Rattle.rules.specs.BookRules as books
use Rattle.loss_list.specs.LossList.{in_order, descends}
use Rattle.loss_list.specs.LossList.Stands.{key_of, far_first, Stands, seen, key_wire, wire-plus, far_snoc}

-- ## The book rules

-- a list in order, after numbers that all lie farther
descends-past : (f lo hi : ℕ) (lost r : List ℕ) → f ≤ lo → lo ≤ f + hi → hi ≤ 2 ^ 31 → Ascends lo (f + hi) lost
    → ((b : ℕ) → lo ≤ f + b → descends (key_of f) b r ≡ true) → descends (key_of f) hi (far_first lost ++ r) ≡ true
unfolding descends
descends-past f lo hi [] r p q t a down = down hi q
descends-past f lo hi (x ∷ xs) r p q t a down =
    rw (append_snoc (far_first xs) (wire x) r)
    (descends-past f (suc x) hi xs (wire x ∷ r) (omega (arith, a.0)) (omega (arith, a.1)) t a.2
    (λ b h. rw (key_wire f x (omega (arith, a.0)) (omega (arith, a.1)), lt-ltb (wire x) seqs (wire-below x), lt-ltb (x - f) b (omega (arith, a.0)))
    (down (x - f) (omega (arith, a.0)))))

pub stands-keeps : (hi : ℕ) {lost : List ℕ} {f : ℕ} {xs : List ℕ} → hi ≤ 2 ^ 31 → Stands lost f xs → Ascends f (f + hi) lost → descends (key_of f) hi xs ≡ true
unfolding descends
stands-keeps hi {lost} {f} t S a =
    ap (descends (key_of f) hi) (S.is ∙ sym (append-nil (far_first lost))) ∙ descends-past f f hi lost [] (omega arith) (omega arith) t a (λ b h. refl)

record Seen (f hi : ℕ) (xs : List ℕ) : Type 0 where
  pub is : xs ≡ far_first (seen f xs)
  pub ordered : Ascends f (f + hi) (seen f xs)

keeps-seen : (f hi : ℕ) (xs : List ℕ) → descends (key_of f) hi xs ≡ true → Seen f hi xs
unfolding descends
keeps-seen f hi [] e = record { is = refl; ordered = tt }
keeps-seen f hi (y ∷ ys) e =
    let k : ℕ = key_of f y in
    let both = (and-eq-true_iff (in_order hi k y) (descends (key_of f) k ys)).0 e in
    let one = (and-eq-true_iff (ltb y seqs) (ltb k hi)).0 both.0 in
    let back : wire (f + k) ≡ y = sym (wire-plus f k) ∙ plus-dist seqs (wire f) y (ltb-true y seqs one.0) in
    let rest = keeps-seen f k ys both.1 in
    record {
      is = rw (far_snoc (f + k) (seen f ys), back) (ap (λ (l : List ℕ). y ∷ l) rest.is);
      ordered = ascends_snoc f (f + hi) (f + k) (seen f ys) (omega arith) (let h = ltb-true k hi one.1 in omega arith) rest.ordered;
    }

module _ (f hi : ℕ) (xs : List ℕ) (e : descends (key_of f) hi xs ≡ true) where
  pub keeps-stands : hi ≤ 2 ^ 31 → Stands (seen f xs) f xs
  keeps-stands t = let s = keeps-seen f hi xs e in record { is = s.is; ordered = widen (seen f xs) (omega arith) (omega arith) s.ordered }

  pub keeps-ascends : books.ascends f (f + hi) (seen f xs) ≡ true
  keeps-ascends = facts_ascends f (f + hi) (seen f xs) (keeps-seen f hi xs e).ordered

-- ## Room
