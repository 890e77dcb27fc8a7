-- The runs of a loss report, found from the ends of ranges: they name exactly the numbers reported, in order, and each
-- is of one kind. Seen from the front, the 31-bit numbers lie in three zones: Added up to next unsent, Ignored for 2^30
-- more, then Dropped. `reach` is the distance to the end of a number's zone, and a range of at most 2^30 numbers meets
-- at most three zones. Joined has the joining.
use mathlib.Core.Path.{◌∙◌, ◌≡◌, ap, refl, subst, sym}
use mathlib.Core.Bool.{Bool, false, true}
use mathlib.Core.List.{List, [], ◌++◌, ◌∷◌}
use Prim.Native.Nat.{◌+◌, ◌-◌, ◌<◌, ◌^◌, ◌≤◌, min, suc, zero, ℕ}
use native.Mathlib.Omega.{arith}
use lib.Dec.{leb, ltb}
use lib.ListN.{length}
use borrow.Author.Tests.{le-ltb, leb-false, leb-true, lt-ltb, ltb-false, ltb-true}
use Rattle.laws.specs.Bools.{and_r}
use Rattle.rules.specs.Losses.{Added, Dropped, Ignored, Item, LossKind, Words, bad, before, is_range, item_runs, items, joined, kind_by, kind_of, parse, reach, reach_by, runs_of, stretch, words_of}
use Rattle.rules.specs.Numbers.{distance, wire}
use Rattle.rules.specs.Sender.{Sender, sent_of}
use Rattle.rules_theorems.specs.Laws.BookRules.{Good}
use Rattle.rules_theorems.specs.Laws.Numbers.{distance-below, distance-wire, wire-below, wire-distance}
use Rattle.rules_theorems.specs.Demands.Losses.{AllOf, AllRuns, AllWords, Fine, OneKind, answered, reported, up_from}
use Rattle.rules_theorems.proofs.Entering.{all-runs-append}
use Rattle.rules_theorems.proofs.Joined.{answered-append, joined-answered, joined-kinds, up-append}

module _ (s : Sender) (g : Good s) (short : sent_of s < 2 ^ 30) where
  -- the place of a number on the circle, from the front
  abbrev pos : ℕ → ℕ
  pos m = distance (wire s.front) m

  from_next : (m : ℕ) → m < 2 ^ 31 → sent_of s ≤ pos m → distance (wire s.next) m ≡ pos m - sent_of s
  from_next m l h =
      let low = g.low in
      let p : ℕ = pos m in
      ap (distance (wire s.next)) (sym (wire-distance s.front m l))
      ∙ (distance-wire s.next (s.front + pos m) (omega arith) (omega (arith, distance-below (wire s.front) m)) ∙ omega arith)

  is-added : (m : ℕ) → pos m < sent_of s → kind_of s m ≡ Added
  unfolding kind_of kind_by
  is-added m h = rw (lt-ltb (pos m) (sent_of s) h)

  is_ignored : (m : ℕ) → m < 2 ^ 31 → sent_of s ≤ pos m → pos m < sent_of s + 2 ^ 30 → kind_of s m ≡ Ignored
  unfolding kind_of kind_by
  is_ignored m l h k = rw (le-ltb (pos m) (sent_of s) h, lt-ltb (distance (wire s.next) m) (2 ^ 30) (omega (arith, from_next m l h)))

  is-dropped : (m : ℕ) → m < 2 ^ 31 → sent_of s + 2 ^ 30 ≤ pos m → kind_of s m ≡ Dropped
  unfolding kind_of kind_by
  is-dropped m l h =
      let far : sent_of s ≤ pos m = omega arith in
      rw (le-ltb (pos m) (sent_of s) far, le-ltb (distance (wire s.next) m) (2 ^ 30) (omega (arith, from_next m l far)))

  reach-added : (m : ℕ) → pos m < sent_of s → reach s m ≡ sent_of s - pos m
  unfolding reach reach_by
  reach-added m h = ap (reach_by s m) (is-added m h)

  reach_ignored : (m : ℕ) → m < 2 ^ 31 → sent_of s ≤ pos m → pos m < sent_of s + 2 ^ 30 → reach s m ≡ sent_of s + 2 ^ 30 - pos m
  unfolding reach reach_by
  reach_ignored m l h k = ap (reach_by s m) (is_ignored m l h k) ∙ omega (arith, from_next m l h)

  reach-dropped : (m : ℕ) → m < 2 ^ 31 → sent_of s + 2 ^ 30 ≤ pos m → reach s m ≡ 2 ^ 31 - pos m
  unfolding reach reach_by
  reach-dropped m l h = ap (reach_by s m) (is-dropped m l h)

  -- n numbers further on
  pos-on : (m n : ℕ) → m < 2 ^ 31 → pos m + n < 2 ^ 31 → pos (wire (m + n)) ≡ pos m + n
  pos-on m n l h =
      ap pos (same (pos m) (wire-distance s.front m l))
      ∙ (distance-wire s.front (s.front + (pos m + n)) (omega arith) (omega arith) ∙ omega arith)
    where
      same : (x : ℕ) → wire (s.front + x) ≡ m → wire (m + n) ≡ wire (s.front + (x + n))
      same x e = omega arith

  pos-round : (m n : ℕ) → m < 2 ^ 31 → pos m + n ≡ 2 ^ 31 → pos (wire (m + n)) ≡ 0
  pos-round m n l h =
      ap pos (same (pos m) (wire-distance s.front m l) h)
      ∙ (distance-wire s.front s.front (omega arith) (omega arith) ∙ omega arith)
    where
      same : (x : ℕ) → wire (s.front + x) ≡ m → x + n ≡ 2 ^ 31 → wire (m + n) ≡ wire s.front
      same x e q = omega arith

  -- n numbers from m on lie in a zone of kind k
  in_zone : (k : LossKind) (lo hi : ℕ) → ((m : ℕ) → m < 2 ^ 31 → lo ≤ pos m → pos m < hi → kind_of s m ≡ k) → hi ≤ 2 ^ 31
      → (m n : ℕ) → m < 2 ^ 31 → lo ≤ pos m → pos m + n ≤ hi → AllOf s k m n
  in_zone k lo hi z b m zero l p q = tt
  in_zone k lo hi z b m (suc zero) l p q = (z m l p (omega arith), tt)
  in_zone k lo hi z b m (suc (suc n)) l p q =
      let f : wire (m + 1) ≡ wire (suc m) = omega arith in
      let e : pos (wire (suc m)) ≡ suc (pos m) = ap pos (sym f) ∙ (pos-on m 1 l (omega arith) ∙ omega arith) in
      (z m l p (omega arith), in_zone k lo hi z b (wire (suc m)) (suc n) (wire-below (suc m)) (omega arith) (omega arith))

  -- the three zones, as what a number is and how far it is to the end of its zone
  data Zone (m : ℕ) : Type 0 where
    near : pos m < sent_of s → reach s m ≡ sent_of s - pos m → Zone m
    ahead : sent_of s ≤ pos m → pos m < sent_of s + 2 ^ 30 → reach s m ≡ sent_of s + 2 ^ 30 - pos m → Zone m
    past : sent_of s + 2 ^ 30 ≤ pos m → pos m < 2 ^ 31 → reach s m ≡ 2 ^ 31 - pos m → Zone m

  zone : (m : ℕ) → m < 2 ^ 31 → Zone m
  zone m l = go (ltb (pos m) (sent_of s)) refl (ltb (pos m) (sent_of s + 2 ^ 30)) refl
    where
      go : (a : Bool) → ltb (pos m) (sent_of s) ≡ a → (b : Bool) → ltb (pos m) (sent_of s + 2 ^ 30) ≡ b → Zone m
      go true e b f = near (ltb-true _ _ e) (reach-added m (ltb-true _ _ e))
      go false e true f = ahead (ltb-false _ _ e) (ltb-true _ _ f) (reach_ignored m l (ltb-false _ _ e) (ltb-true _ _ f))
      go false e false f = past (ltb-false _ _ f) (distance-below (wire s.front) m) (reach-dropped m l (ltb-false _ _ f))

  -- a run as far as the zone goes is of one kind
  run-kind : (m k : ℕ) → m < 2 ^ 31 → 1 ≤ k → k ≤ reach s m → OneKind s (record { kind = kind_of s m; first = m; count = k })
  run-kind m k l p q = record { number = l; filled = p; all = go (zone m l) }
    where
      go : Zone m → AllOf s (kind_of s m) m k
      go (near a r) =
          rw (is-added m a) (in_zone Added 0 (sent_of s) (λ m l p q. is-added m q) (omega arith) m k l (omega arith) (omega arith))
      go (ahead a b r) =
          rw (is_ignored m l a b) (in_zone Ignored (sent_of s) (sent_of s + 2 ^ 30) is_ignored (omega arith) m k l a (omega arith))
      go (past a b r) =
          rw (is-dropped m l a)
          (in_zone Dropped (sent_of s + 2 ^ 30) (2 ^ 31) (λ m l p q. is-dropped m l p) (omega arith) m k l a (omega arith))

  reach-some : (m : ℕ) → m < 2 ^ 31 → 1 ≤ reach s m
  reach-some m l = go (zone m l)
    where
      go : Zone m → 1 ≤ reach s m
      go (near a r) = omega arith
      go (ahead a b r) = omega arith
      go (past a b r) = omega arith

  stretch-kinds : (f m n : ℕ) → m < 2 ^ 31 → AllRuns (OneKind s) (stretch s f m n)
  unfolding stretch
  stretch-kinds zero m n l = tt
  stretch-kinds (suc f) m zero l = tt
  stretch-kinds (suc f) m (suc n) l =
      let k : ℕ = min (suc n) (reach s m) in (
        run-kind m k l (omega (arith, reach-some m l)) (omega arith),
        stretch-kinds f (wire (m + k)) (suc n - k) (wire-below (m + k)),
      )

  -- ## All numbers of an item

  Covers : ℕ → ℕ → ℕ → Type 0
  Covers f m n = answered (stretch s f m n) ≡ up_from m n

  covers-none : (f m : ℕ) → Covers f m 0
  unfolding Covers stretch answered up_from
  covers-none zero m = refl
  covers-none (suc f) m = refl

  -- a run of k numbers, and then the rest
  covers-step : (f m n k : ℕ) → m < 2 ^ 31 → min (suc n) (reach s m) ≡ k → Covers f (wire (m + k)) (suc n - k) → Covers (suc f) m (suc n)
  unfolding Covers stretch answered
  covers-step f m n k l e h =
      let all : k + (suc n - k) ≡ suc n = omega arith in
      rw e (ap (λ (x : List ℕ). up_from m k ++ x) h ∙ (sym (up-append m k (suc n - k) l) ∙ ap (up_from m) all))

  -- n numbers within m's zone
  covers_one : (f m n : ℕ) → m < 2 ^ 31 → n ≤ reach s m → Covers (suc f) m n
  covers_one f m zero l h = covers-none (suc f) m
  covers_one f m (suc n) l h =
      let z : suc n - suc n ≡ 0 = omega arith in
      covers-step f m n (suc n) l (omega arith) (rw z (covers-none f (wire (m + suc n))))

  -- from a number at next unsent or, with none sent, at the front: the whole Ignored zone lies ahead
  covers-next : (f m n : ℕ) → m < 2 ^ 31 → pos m ≡ sent_of s → n ≤ 2 ^ 30 → Covers (suc f) m n
  covers-next f m n l e h = covers_one f m n l (omega (arith, reach_ignored m l (omega arith) (omega arith)))

  -- where the zone of m ends within n numbers, and the rest is covered from there
  covers-beyond : (f m n k : ℕ) → m < 2 ^ 31 → reach s m ≡ k → (k ≤ n → Covers f (wire (m + k)) (n - k)) → Covers (suc f) m n
  covers-beyond f m zero k l e h = covers-none (suc f) m
  covers-beyond f m (suc n) k l e h = go (leb k (suc n)) refl
    where
      go : (b : Bool) → leb k (suc n) ≡ b → Covers (suc f) m (suc n)
      go true q = let w : k ≤ suc n = leb-true _ _ q in covers-step f m n k l (omega arith) (h w)
      go false q = let w : suc n < k = leb-false _ _ q in covers_one f m (suc n) l (omega arith)

  -- from the front on: Added, then Ignored; or Ignored alone, where none is sent
  covers-near : (f m n : ℕ) → m < 2 ^ 31 → pos m ≤ sent_of s → n ≤ 2 ^ 30 → Covers (suc (suc f)) m n
  covers-near f m n l h b = go (zone m l)
    where
      go : Zone m → Covers (suc (suc f)) m n
      go (near a r) = covers-beyond (suc f) m n (sent_of s - pos m) l r
          (λ w. covers-next f (wire (m + (sent_of s - pos m))) (n - (sent_of s - pos m)) (wire-below (m + (sent_of s - pos m)))
          (pos-on m (sent_of s - pos m) l (omega arith) ∙ omega arith) (omega arith))
      go (ahead a a' r) = covers-next (suc f) m n l (omega arith) b
      go (past a a' r) = absurd (omega arith)

  covers-three : (m n : ℕ) → m < 2 ^ 31 → n ≤ 2 ^ 30 → Covers 3 m n
  covers-three m n l b = go (zone m l)
    where
      go : Zone m → Covers 3 m n
      go (near a r) = covers-near 1 m n l (omega arith) b
      go (ahead a a' r) =
          let k : ℕ = sent_of s + 2 ^ 30 - pos m in
          let p : pos (wire (m + (sent_of s + 2 ^ 30 - pos m))) ≡ sent_of s + 2 ^ 30 = pos-on m k l (omega arith) ∙ omega arith in
          covers-beyond 2 m n k l r
          (λ w. covers-beyond 1 (wire (m + k)) (n - k) (2 ^ 30 - sent_of s) (wire-below (m + k))
          (reach-dropped (wire (m + k)) (wire-below (m + k)) (omega arith) ∙ omega arith)
          (λ w'. last (wire (m + k)) (n - k) (wire-below (m + k)) p (omega arith)))
        where
          -- from the front, with fewer left than are sent
          last : (m n : ℕ) → m < 2 ^ 31 → pos m ≡ sent_of s + 2 ^ 30 → n ≤ 2 ^ 30
              → Covers 1 (wire (m + (2 ^ 30 - sent_of s))) (n - (2 ^ 30 - sent_of s))
          last m n l p b =
              let q : pos (wire (m + (2 ^ 30 - sent_of s))) ≡ 0 = pos-round m (2 ^ 30 - sent_of s) l (omega arith) in
              front (wire (m + (2 ^ 30 - sent_of s))) (n - (2 ^ 30 - sent_of s)) (wire-below (m + (2 ^ 30 - sent_of s))) q (omega arith)
            where
              front : (m n : ℕ) → m < 2 ^ 31 → pos m ≡ 0 → n ≤ sent_of s → Covers 1 m n
              front m zero l q h = covers-none 1 m
              front m (suc n) l q h = covers_one 0 m (suc n) l (omega (arith, reach-added m (omega arith)))
      go (past a a' r) =
          covers-beyond 2 m n (2 ^ 31 - pos m) l r
          (λ w. covers-near 0 (wire (m + (2 ^ 31 - pos m))) (n - (2 ^ 31 - pos m)) (wire-below (m + (2 ^ 31 - pos m)))
          (omega (arith, pos-round m (2 ^ 31 - pos m) l (omega arith))) (omega arith))

  pub runs-covers : (is : List Item) → Fine is → answered (runs_of s is) ≡ reported is
  unfolding runs_of item_runs reported Covers answered
  runs-covers [] f = refl
  runs-covers (i ∷ is) f =
      answered-append s (item_runs s i) (runs_of s is)
      ∙ (ap (λ (l : List ℕ). l ++ answered (runs_of s is))
      (covers-three i.first (suc (distance i.first i.last)) f.0 (omega (arith, f.1)))
      ∙ ap (λ (l : List ℕ). up_from i.first (suc (distance i.first i.last)) ++ l) (runs-covers is f.2))

  pub runs-kinds : (is : List Item) → Fine is → AllRuns (OneKind s) (runs_of s is)
  unfolding runs_of item_runs
  runs-kinds [] f = tt
  runs-kinds (i ∷ is) f =
      all-runs-append (OneKind s) (item_runs s i) (runs_of s is) (stretch-kinds 3 i.first _ f.0) (runs-kinds is f.2)

  -- "in order, maximal runs of one kind and consecutive numbers, also across items"
  pub answer-kinds : (is : List Item) → Fine is → AllRuns (OneKind s) (joined (runs_of s is))
  answer-kinds is f = joined-kinds s (runs_of s is) (runs-kinds is f)

  pub answer-covers : (is : List Item) → Fine is → answered (joined (runs_of s is)) ≡ reported is
  answer-covers is f = joined-answered s (runs_of s is) (runs-kinds is f) ∙ runs-covers is f

-- the items of a report of u32 words are such items
before-fine : (i : Item) (w : Words) (is : List Item) → before i w ≡ items is → ((js : List Item) → w ≡ items js → Fine js)
    → i.first < 2 ^ 31 → distance i.first i.last < 2 ^ 30 → Fine is
unfolding before
before-fine i (items js) is e h a b = let q : (i ∷ js) ≡ is = cc in subst (λ (l : List Item). Fine l) q (a, b, h js refl)
before-fine i (bad index) is e h a b = absurd (let z : ◌≡◌ {A = ℕ} 0 1 = cc in omega arith)

self : (a : ℕ) → a < 2 ^ 31 → distance a a < 2 ^ 30
unfolding distance
self a h = omega arith

parse-fine : (n i : ℕ) (ws : List ℕ) → length ws ≤ n → AllWords ws → (is : List Item) → parse i ws ≡ items is → Fine is
unfolding parse is_range
parse-fine n i [] h w is e = let q : [] ≡ is = cc in subst (λ (l : List Item). Fine l) q tt
parse-fine n i (a ∷ []) h w is e = go (ltb a (2 ^ 31)) refl
  where
    go : (b : Bool) → ltb a (2 ^ 31) ≡ b → Fine is
    go true f =
        let q : items (record { first = a; last = a } ∷ []) ≡ items is = rw (f, parse) at e in
        let r : (record { first = a; last = a } ∷ []) ≡ is = cc in
        subst (λ (l : List Item). Fine l) r (ltb-true _ _ f, self a (ltb-true _ _ f), tt)
    go false f = let q : bad i ≡ items is = rw (f, parse) at e in absurd (let z : ◌≡◌ {A = ℕ} 0 1 = cc in omega arith)
parse-fine zero i (a ∷ b ∷ ws) h w is e = absurd (omega arith)
parse-fine (suc n) i (a ∷ b ∷ ws) h w is e =
    go (ltb a (2 ^ 31)) refl (is_range a b) refl (parse-fine n (suc i) (b ∷ ws) (omega arith) w.1)
    (parse-fine n (2 + i) ws (omega arith) w.1.1)
  where
    go : (x : Bool) → ltb a (2 ^ 31) ≡ x → (y : Bool) → is_range a b ≡ y → ((js : List Item) → parse (suc i) (b ∷ ws) ≡ items js → Fine js)
        → ((js : List Item) → parse (2 + i) ws ≡ items js → Fine js) → Fine is
    go true f y k ih jh =
        before-fine (record { first = a; last = a }) (parse (suc i) (b ∷ ws)) is (rw (f, parse) at e) ih (ltb-true _ _ f)
        (self a (ltb-true _ _ f))
    go false f true k ih jh =
        before-fine (record { first = a - 2 ^ 31; last = b }) (parse (2 + i) ws) is (rw (f, k, parse) at e) jh (omega (arith, w.0))
        (ltb-true _ _ (and_r (ltb b (2 ^ 31)) (ltb (distance (a - 2 ^ 31) b) (2 ^ 30)) k))
    go false f false k ih jh = let q : bad i ≡ items is = rw (f, k, parse) at e in absurd (let z : ◌≡◌ {A = ℕ} 0 1 = cc in omega arith)

pub words-fine : (ws : List ℕ) → AllWords ws → (is : List Item) → words_of ws ≡ items is → Fine is
unfolding words_of
words-fine ws w is e = go (ltb 512 (length ws)) refl
  where
    go : (b : Bool) → ltb 512 (length ws) ≡ b → Fine is
    go true f = let q : bad 512 ≡ items is = rw (f, words_of) at e in absurd (let z : ◌≡◌ {A = ℕ} 0 1 = cc in omega arith)
    go false f = parse-fine (length ws) 0 ws (omega arith) w is (rw (f, words_of) at e)
