-- The runs agree with the rules.
--   Sends s f n                          f is the front of the sender s, and n of its packets are sent
--   Reaches, reaches-added, reaches_ignored, reaches-dropped   kind and reach of a number, from the code's tests
--   kind_at-is, stretch_at-is, runs_at-is   kinds and runs are those of the rules
--   Numbers is                           every end of an item is a sequence number
--   words-numbers                        this holds of a report's items
--   answer-is                            the answer that is written is that of the rules
--   is_same_kind-true, end-merged            two runs of the same kind; the end of two joined runs
--   add_all-joined, add_all-append         runs added one by one at the end are the joined ones; they can be added in two
--                                        parts
use Rattle.std.specs.Prelude.{◌≡◌, Bool, ◌&&◌, cond, ltb, eqb, length, get_or}
use Rattle.std.proofs.Math.Path.{refl}
use Rattle.std.proofs.Common.{sym, ap, ◌∙◌, arith, eqb-true, ltb-true, lt-ltb, le-ltb}
use Rattle.std.proofs.Math.Bool.{true, false, and-eq-true_iff}
use mathlib.Core.List.{List, [], ◌∷◌, ◌++◌, append-nil}
use Rattle.std.proofs.Math.Seq.{append_snoc}
use Prim.Native.Nat.{ℕ, zero, suc, ◌+◌, ◌-◌, ◌^◌, ◌≤◌, ◌<◌, min}
use Rattle.std.proofs.Math.Nat.{mod-add-mod}
use Rattle.rules_numbers.specs.Modular.{seqs, plus, dist}
use Rattle.rules_numbers.specs.Modular.Laws.{plus-is}
use Rattle.rules.specs.Numbers.{wire, distance}
use Rattle.rules_theorems.specs.Laws.Numbers.{wire-below, distance-is-dist}
use Rattle.rules.specs.Sender.{Sender, sent_of}
use Rattle.rules.specs.Losses as rules
use Rattle.rules.specs.Losses.{Item, Words, items, items_of, bad, before, is_range, parse, words_of, LossKind, Added, Ignored, Dropped, LossRun, kind_by, kind_of, reach, stretch, item_runs, runs_of, end_of, is_same_kind, meets, glue, joined}
use Rattle.loss_words.specs.Runs.{code_of, kind_at, reach_by, reach_at, stretch_at, item_runs_at, runs_at, merged, add, add_all}

pub record Sends (s : Sender) (f n : ℕ) : Type 0 where
  pub front : f ≡ wire s.front
  pub sent : n ≡ sent_of s
  pub ordered : s.front ≤ s.next

-- ## Kinds and runs

-- the number of the kind of m, and how far it reaches
pub record Reaches (f n m kind count : ℕ) : Type 0 where
  pub is : kind ≡ code_of (kind_at f n m)
  pub far : count ≡ reach_at f n m

module _ (f n m : ℕ) where
  by_kind : (a b : Bool) → ltb (dist seqs f m) n ≡ a → ltb (dist seqs (plus seqs f n) m) (2 ^ 30) ≡ b
      → Reaches f n m (code_of (kind_by a b)) (reach_by f n m (kind_by a b))
  unfolding kind_at
  by_kind a b p q = record { is = rw (p, q); far = rw (p, q) }

  pub reaches-added : dist seqs f m < n → Reaches f n m 1 (n - dist seqs f m)
  unfolding reach_by kind_by
  reaches-added h = by_kind true (ltb (dist seqs (plus seqs f n) m) (2 ^ 30)) (lt-ltb (dist seqs f m) n h) refl

  module _ (past : n ≤ dist seqs f m) where
    pub reaches_ignored : dist seqs (plus seqs f n) m < 2 ^ 30 → Reaches f n m 2 (2 ^ 30 - dist seqs (plus seqs f n) m)
    unfolding reach_by kind_by
    reaches_ignored h = by_kind false true (le-ltb (dist seqs f m) n past) (lt-ltb (dist seqs (plus seqs f n) m) (2 ^ 30) h)

    pub reaches-dropped : 2 ^ 30 ≤ dist seqs (plus seqs f n) m → Reaches f n m 3 (2 ^ 31 - dist seqs f m)
    unfolding reach_by kind_by
    reaches-dropped h = by_kind false false (le-ltb (dist seqs f m) n past) (le-ltb (dist seqs (plus seqs f n) m) (2 ^ 30) h)

module _ {s : Sender} {f n : ℕ} (S : Sends s f n) where
  from_front : (m : ℕ) → m < 2 ^ 31 → dist seqs f m ≡ distance (wire s.front) m
  from_front m h = rw S.front (sym (distance-is-dist (wire s.front) m (wire-below s.front) h))

  next-is : plus seqs f n ≡ wire s.next
  next-is =
      let e : s.front + sent_of s ≡ s.next = omega (arith, S.ordered) in
      rw (S.front, S.sent) (plus-is seqs (wire s.front) (sent_of s) ∙ mod-add-mod s.front (2 ^ 31) (sent_of s) ∙ ap wire e)

  from_next : (m : ℕ) → m < 2 ^ 31 → dist seqs (plus seqs f n) m ≡ distance (wire s.next) m
  from_next m h = rw next-is (sym (distance-is-dist (wire s.next) m (wire-below s.next) h))

  pub kind_at-is : (m : ℕ) → m < 2 ^ 31 → kind_at f n m ≡ kind_of s m
  unfolding kind_at kind_of
  kind_at-is m h = rw (from_front m h, from_next m h, S.sent)

  reach_by-is : (m : ℕ) → m < 2 ^ 31 → (k : LossKind) → reach_by f n m k ≡ rules.reach_by s m k
  unfolding reach_by rules.reach_by
  reach_by-is m h Added = rw (from_front m h, S.sent)
  reach_by-is m h Ignored = rw (from_next m h)
  reach_by-is m h Dropped = rw (from_front m h)

  pub stretch_at-is : (i m k : ℕ) → m < 2 ^ 31 → stretch_at f n i m k ≡ stretch s i m k
  unfolding stretch_at stretch reach
  stretch_at-is zero m k h = refl
  stretch_at-is (suc i) m zero h = refl
  stretch_at-is (suc i) m (suc k) h =
      rw (kind_at-is m h, reach_by-is m h (kind_of s m), plus-is seqs m (min (suc k) (rules.reach_by s m (kind_of s m))))
      (ap (λ (l : List LossRun). record { kind = kind_of s m; first = m; count = min (suc k) (reach s m) } ∷ l)
      (stretch_at-is i (wire (m + min (suc k) (reach s m))) (suc k - min (suc k) (reach s m)) (wire-below (m + min (suc k) (reach s m)))))

abbrev pub Numbers : List Item → Type 0
Numbers [] = Unit {0}
Numbers (i ∷ is) = (i.first < 2 ^ 31) × (i.last < 2 ^ 31) × Numbers is

pub runs_at-is : {s : Sender} {f n : ℕ} → Sends s f n → (is : List Item) → Numbers is → runs_at f n is ≡ runs_of s is
unfolding runs_at runs_of item_runs_at item_runs
runs_at-is S [] a = refl
runs_at-is {s} {f} {n} S (i ∷ is) a =
    rw (← distance-is-dist i.first i.last a.0 a.1, stretch_at-is S 3 i.first (suc (distance i.first i.last)) a.0)
    (ap (λ (l : List LossRun). stretch s 3 i.first (suc (distance i.first i.last)) ++ l) (runs_at-is S is a.2))

before-numbers : (i : Item) (w : Words) → i.first < 2 ^ 31 → i.last < 2 ^ 31 → Numbers (items_of w) → Numbers (items_of (before i w))
unfolding before
before-numbers i (items is) p q a = (p, q, a)
before-numbers i (bad index) p q a = tt

parse-numbers : (i : ℕ) (ws : List ℕ) → ((j : ℕ) → get_or ws j 0 < 2 ^ 32) → Numbers (items_of (parse i ws))
unfolding parse is_range
parse-numbers i [] h = tt
parse-numbers i (a ∷ []) h = go (ltb a (2 ^ 31)) refl
  where
    go : (t : Bool) → ltb a (2 ^ 31) ≡ t → Numbers (items_of (cond t (items (record { first = a; last = a } ∷ [])) (bad i)))
    go true e = (ltb-true a (2 ^ 31) e, ltb-true a (2 ^ 31) e, tt)
    go false e = tt
parse-numbers i (a ∷ b ∷ ws) h =
    go (ltb a (2 ^ 31)) refl (ltb b (2 ^ 31) && ltb (distance (a - 2 ^ 31) b) (2 ^ 30)) refl
    (parse-numbers (suc i) (b ∷ ws) (λ j. h (suc j))) (parse-numbers (2 + i) ws (λ j. h (suc (suc j))))
  where
    go : (t : Bool) → ltb a (2 ^ 31) ≡ t → (r : Bool) → (ltb b (2 ^ 31) && ltb (distance (a - 2 ^ 31) b) (2 ^ 30)) ≡ r
        → Numbers (items_of (parse (suc i) (b ∷ ws))) → Numbers (items_of (parse (2 + i) ws))
        → Numbers (items_of (cond t (before (record { first = a; last = a }) (parse (suc i) (b ∷ ws))) (cond r (before (record { first = a - 2 ^ 31; last = b }) (parse (2 + i) ws)) (bad i))))
    go true e r d one two = before-numbers (record { first = a; last = a }) (parse (suc i) (b ∷ ws)) (ltb-true a (2 ^ 31) e) (ltb-true a (2 ^ 31) e) one
    go false e true d one two =
        before-numbers (record { first = a - 2 ^ 31; last = b }) (parse (2 + i) ws) (omega (arith, h 0))
        (ltb-true b (2 ^ 31) ((and-eq-true_iff (ltb b (2 ^ 31)) (ltb (distance (a - 2 ^ 31) b) (2 ^ 30))).0 d).0) two
    go false e false d one two = tt

pub words-numbers : (ws : List ℕ) → ((j : ℕ) → get_or ws j 0 < 2 ^ 32) → Numbers (items_of (words_of ws))
unfolding words_of
words-numbers ws h = go (ltb 512 (length ws))
  where
    go : (t : Bool) → Numbers (items_of (cond t (bad 512) (parse 0 ws)))
    go true = tt
    go false = parse-numbers 0 ws h

-- the answer is that of the rules
pub answer-is : {s : Sender} {f n : ℕ} → Sends s f n → (ws : List ℕ) → ((j : ℕ) → get_or ws j 0 < 2 ^ 32)
    → joined (runs_at f n (items_of (words_of ws))) ≡ joined (runs_of s (items_of (words_of ws)))
answer-is S ws h = ap joined (runs_at-is S (items_of (words_of ws)) (words-numbers ws h))

-- ## Joining

pub is_same_kind-true : (a b : LossKind) → is_same_kind a b ≡ true → a ≡ b
is_same_kind-true Added Added e = refl
is_same_kind-true Added Ignored e = cc
is_same_kind-true Added Dropped e = cc
is_same_kind-true Ignored Added e = cc
is_same_kind-true Ignored Ignored e = refl
is_same_kind-true Ignored Dropped e = cc
is_same_kind-true Dropped Added e = cc
is_same_kind-true Dropped Ignored e = cc
is_same_kind-true Dropped Dropped e = refl

-- a run that continues into x ends where x ends
pub end-merged : (r x : LossRun) → meets r x ≡ true → end_of (merged r x) ≡ end_of x
end-merged r x e =
    let at : end_of r ≡ x.first = eqb-true (end_of r) x.first ((and-eq-true_iff (is_same_kind r.kind x.kind) (eqb (end_of r) x.first)).0 e).1 in
    omega arith

meets_through : (r x q : LossRun) → meets r x ≡ true → meets (merged r x) q ≡ meets x q
meets_through r x q e =
    let kind : r.kind ≡ x.kind = is_same_kind-true r.kind x.kind ((and-eq-true_iff (is_same_kind r.kind x.kind) (eqb (end_of r) x.first)).0 e).0 in
    ap (λ (k : LossKind). is_same_kind k q.kind && eqb (end_of (merged r x)) q.first) kind
    ∙ ap (λ (m : ℕ). is_same_kind x.kind q.kind && eqb m q.first) (end-merged r x e)

glue-add : (r : LossRun) (xs : List LossRun) (q : LossRun) → glue r (add xs q) ≡ add (glue r xs) q
unfolding glue add
glue-add r [] q = refl
glue-add r (x ∷ []) q = go (meets r x) refl (meets x q) refl
  where
    go : (a : Bool) → meets r x ≡ a → (b : Bool) → meets x q ≡ b
        → glue r (cond b (merged x q ∷ []) (x ∷ q ∷ [])) ≡ add (cond a (merged r x ∷ []) (r ∷ x ∷ [])) q
    go true e true d =
        let sum : r.count + (x.count + q.count) ≡ r.count + x.count + q.count = omega arith in
        rw (e, meets_through r x q e, d, sum, glue, add)
    go true e false d = rw (e, meets_through r x q e, d, glue, add)
    go false e true d = rw (e, d, glue, add)
    go false e false d = rw (e, d, glue, add)
glue-add r (x ∷ y ∷ ys) q = go (meets r x)
  where
    go : (a : Bool) → cond a (merged r x ∷ add (y ∷ ys) q) (r ∷ x ∷ add (y ∷ ys) q) ≡ add (cond a (merged r x ∷ y ∷ ys) (r ∷ x ∷ y ∷ ys)) q
    go true = refl
    go false = refl

joined-add : (rs : List LossRun) (q : LossRun) → joined (rs ++ (q ∷ [])) ≡ add (joined rs) q
unfolding joined glue add
joined-add [] q = refl
joined-add (r ∷ rs) q = ap (glue r) (joined-add rs q) ∙ glue-add r (joined rs) q

after : (ds rs : List LossRun) → add_all (joined ds) rs ≡ joined (ds ++ rs)
unfolding add_all
after ds [] = ap joined (sym (append-nil ds))
after ds (q ∷ qs) = ap (λ (l : List LossRun). add_all l qs) (sym (joined-add ds q)) ∙ after (ds ++ (q ∷ [])) qs ∙ ap joined (append_snoc ds q qs)

pub add_all-joined : (rs : List LossRun) → add_all [] rs ≡ joined rs
unfolding joined
add_all-joined rs = after [] rs

pub add_all-append : (rs ps qs : List LossRun) → add_all rs (ps ++ qs) ≡ add_all (add_all rs ps) qs
unfolding add_all
add_all-append rs [] qs = refl
add_all-append rs (p ∷ ps) qs = add_all-append (add rs p) ps qs
