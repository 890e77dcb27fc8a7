-- Runs in the first words of a lent list, and the list with one more run.
--   Holds len rs e l                           the list l is e with the len runs rs in its first words
--   goes_on l len kind first whether the last run in l continues into one of that kind and first number
--   HasRoom, SameList                          the writer's list: its room, and that it is the same one
--   Pushed, Written, Accepted                  what the functions that write the answer guarantee and require
--   holds-none, holds-room, words-length       no runs; room for one more; how many words they take
--   Last                                       the last run, and the runs before it
--   pushed-on, pushed-new, push-on, push-new   one more run, joined to the last or not; as the code stores it
--   goes_on-some                               a run that is continued is there
use Rattle.std.specs.Prelude.{◌≡◌, refl, Bool, true, false, ◌&&◌, cond, List, [], ◌∷◌, ◌++◌, ℕ, zero, suc, ◌+◌, ◌-◌, ◌*◌, ◌≤◌, ◌<◌, ltb, eqb, length, drop, set, get_or}
use Rattle.std.proofs.Common.{sym, ap, ◌∙◌, append_assoc, arith, length-append, length-drop, length-set, get_or-append-add, lt-ltb, le-ltb}
use Rattle.std.proofs.Math.Seq.{append_snoc}
use Rattle.loss_list.specs.LossList.{over}
use Rattle.loss_list.specs.LossList.Laws.{set-over}
use Rattle.rules.specs.Losses.{items, items_of, words_of, LossKind, Added, Ignored, Dropped, LossRun, end_of, is_same_kind, meets}
use Rattle.loss_words.specs.declared.runs.Runs.{Runs}
use Rattle.loss_words.specs.Runs.{code_of, words_for, merged, add, add_all}
use Rattle.loss_words.specs.Runs.Laws.{end-merged}

pub record Holds (len : ℕ) (rs : List LossRun) (e l : List ℕ) : Type 0 where
  pub count : len ≡ length rs
  pub area : l ≡ over (words_for rs) e

abbrev pub goes_on : List ℕ → ℕ → ℕ → ℕ → Bool
goes_on l len kind first = cond (ltb len 1) false (eqb (get_or l (3 * len - 3) 0) kind && eqb (get_or l (3 * len - 1) 0) first)

-- there is room for k more runs
abbrev pub HasRoom : ℕ → Runs → Type 0
HasRoom k r = 3 * r.len + 3 * k ≤ length r.list.now

-- the same lent list, so that the lender finds in it what is written here
pub record SameList (given left : Runs) : Type 0 where
  pub name : left.list.ghost_name ≡ given.list.ghost_name
  pub long : length left.list.now ≡ length given.list.now

-- one more run, given by its words
pub record Pushed (given : Runs) (kind first end : ℕ) (left : Runs) : Type 0 where
  pub few : left.len ≤ given.len + 1
  pub same : SameList given left
  pub holds : (rs : List LossRun) (e : List ℕ) (q : LossRun) → Holds given.len rs e given.list.now → kind ≡ code_of q.kind → first ≡ q.first → end ≡ end_of q
      → Holds left.len (add rs q) e left.list.now

-- .. with the runs qs added, at most three
pub record Written (given : Runs) (qs : List LossRun) (left : Runs) : Type 0 where
  pub few : left.len ≤ given.len + 3
  pub same : SameList given left
  pub holds : (rs : List LossRun) (e : List ℕ) → Holds given.len rs e given.list.now → Holds left.len (add_all rs qs) e left.list.now

-- "Room needed: three per item": the words ws are well-formed, and the list l has room for three runs per item
pub record Accepted (ws l : List ℕ) : Type 0 where
  pub fine : words_of ws ≡ items (items_of (words_of ws))
  pub room : 9 * length (items_of (words_of ws)) ≤ length l

pub holds-none : (e : List ℕ) → Holds 0 [] e e
unfolding words_for
holds-none e = record { count = refl; area = refl }

pub words-length : (rs : List LossRun) → length (words_for rs) ≡ 3 * length rs
unfolding words_for
words-length [] = refl
words-length (r ∷ rs) = omega (arith, words-length rs)

pub holds-room : {len : ℕ} {rs : List LossRun} {e l : List ℕ} → Holds len rs e l → 3 * len + 3 ≤ length l → 3 * len + 3 ≤ length e
holds-room {len} {rs} {e} {l} H h =
    let long : length l ≡ length (words_for rs) + (length e - length (words_for rs)) = rw H.area (simp (length-append, length-drop)) in
    omega (arith, words-length rs, H.count)

words_append : (xs ys : List LossRun) → words_for (xs ++ ys) ≡ words_for xs ++ words_for ys
unfolding words_for
words_append [] ys = refl
words_append (x ∷ xs) ys = ap (λ (l : List ℕ). code_of x.kind ∷ x.first ∷ end_of x ∷ l) (words_append xs ys)

same_code : (a b : LossKind) → eqb (code_of a) (code_of b) ≡ is_same_kind a b
same_code Added Added = refl
same_code Added Ignored = refl
same_code Added Dropped = refl
same_code Ignored Added = refl
same_code Ignored Ignored = refl
same_code Ignored Dropped = refl
same_code Dropped Added = refl
same_code Dropped Ignored = refl
same_code Dropped Dropped = refl

set-append-add : (xs ys : List ℕ) (n a : ℕ) → set (xs ++ ys) (length xs + n) a ≡ xs ++ set ys n a
set-append-add [] ys n a = let e : 0 + n ≡ n = omega arith in rw e
set-append-add (x ∷ xs) ys n a =
    let e : suc (length xs) + n ≡ suc (length xs + n) = omega arith in
    rw e (ap (λ (l : List ℕ). x ∷ l) (set-append-add xs ys n a))

-- the last run, and the runs before it
pub record Last (rs : List LossRun) : Type 0 where
  pub init : List LossRun
  pub last : LossRun
  pub is : rs ≡ init ++ (last ∷ [])

last_of : (r : LossRun) (rs : List LossRun) → Last (r ∷ rs)
last_of r [] = record { init = []; last = r; is = refl }
last_of r (p ∷ rs) =
    let L = last_of p rs in
    record { init = r ∷ L.init; last = L.last; is = ap (λ (l : List LossRun). r ∷ l) L.is }

add-last : (xs : List LossRun) (x q : LossRun) → add (xs ++ (x ∷ [])) q ≡ xs ++ cond (meets x q) (merged x q ∷ []) (x ∷ q ∷ [])
unfolding add
add-last [] x q = refl
add-last (y ∷ []) x q = refl
add-last (y ∷ z ∷ xs) x q = ap (λ (l : List LossRun). y ∷ l) (add-last (z ∷ xs) x q)

-- ## Where the list has a last run

-- what comes after the runs
abbrev rest : List LossRun → LossRun → List ℕ → List ℕ
rest xs x e = drop (length (words_for (xs ++ (x ∷ [])))) e

laid : (xs : List LossRun) (x : LossRun) (e : List ℕ) → over (words_for (xs ++ (x ∷ []))) e ≡ words_for xs ++ (code_of x.kind ∷ x.first ∷ end_of x ∷ rest xs x e)
unfolding words_for
laid xs x e =
    ap (λ (w : List ℕ). w ++ rest xs x e) (words_append xs (x ∷ []))
    ∙ append_assoc (words_for xs) (code_of x.kind ∷ x.first ∷ end_of x ∷ []) (rest xs x e)

rest-same : (xs : List LossRun) (x y : LossRun) (e : List ℕ) → rest xs x e ≡ rest xs y e
rest-same xs x y e =
    ap (λ (n : ℕ). drop n e)
    (words-length (xs ++ (x ∷ [])) ∙ ap (λ (n : ℕ). 3 * n) (length-append xs (x ∷ []) ∙ sym (length-append xs (y ∷ []))) ∙ sym (words-length (xs ++ (y ∷ []))))

module _ (xs : List LossRun) (x : LossRun) (e : List ℕ) (len : ℕ) (l : List ℕ) (H : Holds len (xs ++ (x ∷ [])) e l) where
  place : len ≡ length xs + 1
  place = H.count ∙ length-append xs (x ∷ [])

  first_word : 3 * len - 3 ≡ length (words_for xs) + 0
  first_word = omega (arith, place, words-length xs)

  last_word : 3 * len - 1 ≡ length (words_for xs) + 2
  last_word = omega (arith, place, words-length xs)

  goes_on-is : (q : LossRun) → goes_on l len (code_of q.kind) q.first ≡ meets x q
  goes_on-is q =
      let some : ltb len 1 ≡ false = le-ltb len 1 (omega (arith, place)) in
      let kind : get_or l (3 * len - 3) 0 ≡ code_of x.kind =
      rw (first_word, H.area, laid xs x e) (get_or-append-add (words_for xs) (code_of x.kind ∷ x.first ∷ end_of x ∷ rest xs x e) 0 0) in
      let end : get_or l (3 * len - 1) 0 ≡ end_of x =
      rw (last_word, H.area, laid xs x e) (get_or-append-add (words_for xs) (code_of x.kind ∷ x.first ∷ end_of x ∷ rest xs x e) 2 0) in
      rw (some, kind, end, same_code x.kind q.kind)

  extended : (q : LossRun) → meets x q ≡ true → Holds len (xs ++ (merged x q ∷ [])) e (set l (3 * len - 1) (end_of q))
  extended q m = record {
    count = place ∙ sym (length-append xs (merged x q ∷ []));
    area = rw (last_word, H.area, laid xs x e)
        (set-append-add (words_for xs) (code_of x.kind ∷ x.first ∷ end_of x ∷ rest xs x e) 2 (end_of q)
        ∙ ap (λ (n : ℕ). words_for xs ++ (code_of x.kind ∷ x.first ∷ n ∷ rest xs x e)) (sym (end-merged x q m))
        ∙ ap (λ (t : List ℕ). words_for xs ++ (code_of x.kind ∷ x.first ∷ end_of (merged x q) ∷ t)) (rest-same xs x (merged x q) e)
        ∙ sym (laid xs (merged x q) e));
  }

-- ## One more run

pub pushed-on : (len : ℕ) (rs : List LossRun) (e l : List ℕ) (q : LossRun) → Holds len rs e l → goes_on l len (code_of q.kind) q.first ≡ true
    → Holds len (add rs q) e (set l (3 * len - 1) (end_of q))
pushed-on len [] e l q H t =
    let none : ltb len 1 ≡ true = lt-ltb len 1 (omega (arith, H.count)) in
    let z : false ≡ true = rw none at t in
    absurd (let y : ◌≡◌ {A = ℕ} 0 1 = cc in omega arith)
pushed-on len (r ∷ rs) e l q H t =
    let L = last_of r rs in
    let H' : Holds len (L.init ++ (L.last ∷ [])) e l = rw L.is at H in
    let m : meets L.last q ≡ true = sym (goes_on-is L.init L.last e len l H' q) ∙ t in
    let is : add (r ∷ rs) q ≡ L.init ++ (merged L.last q ∷ []) = rw L.is (add-last L.init L.last q ∙ rw m) in
    rw is (extended L.init L.last e len l H' q m)

-- if the last run doesn't continue, the new one comes after it
apart : (len : ℕ) (rs : List LossRun) (e l : List ℕ) (q : LossRun) → Holds len rs e l → goes_on l len (code_of q.kind) q.first ≡ false → add rs q ≡ rs ++ (q ∷ [])
unfolding add
apart len [] e l q H t = refl
apart len (r ∷ rs) e l q H t =
    let L = last_of r rs in
    let H' : Holds len (L.init ++ (L.last ∷ [])) e l = rw L.is at H in
    let m : meets L.last q ≡ false = sym (goes_on-is L.init L.last e len l H' q) ∙ t in
    ap (λ (l : List LossRun). add l q) L.is
    ∙ add-last L.init L.last q
    ∙ ap (λ (b : Bool). L.init ++ cond b (merged L.last q ∷ []) (L.last ∷ q ∷ [])) m
    ∙ sym (append_snoc L.init L.last (q ∷ []))
    ∙ ap (λ (l : List LossRun). l ++ (q ∷ [])) (sym L.is)

-- a store right behind the words w
stored : (w e l : List ℕ) (n y : ℕ) → l ≡ over w e → length w ≡ n → n < length e → set l n y ≡ over (w ++ (y ∷ [])) e
stored w e l n y is at h = ap (λ (m : List ℕ). set m n y) is ∙ ap (λ (i : ℕ). set (over w e) i y) (sym at) ∙ set-over w e y (omega arith)

pub pushed-new : (len : ℕ) (rs : List LossRun) (e l : List ℕ) (q : LossRun) → Holds len rs e l → goes_on l len (code_of q.kind) q.first ≡ false
    → 3 * len + 3 ≤ length e
    → Holds (len + 1) (add rs q) e (set (set (set l (3 * len) (code_of q.kind)) (3 * len + 1) q.first) (3 * len + 2) (end_of q))
unfolding words_for
pushed-new len rs e l q H t room =
    let w : List ℕ = words_for rs in
    let k : ℕ = code_of q.kind in
    let at : length w ≡ 3 * len = words-length rs ∙ ap (λ (n : ℕ). 3 * n) (sym H.count) in
    let at1 : length (w ++ (k ∷ [])) ≡ 3 * len + 1 = length-append w (k ∷ []) ∙ omega arith in
    let at2 : length ((w ++ (k ∷ [])) ++ (q.first ∷ [])) ≡ 3 * len + 2 = length-append (w ++ (k ∷ [])) (q.first ∷ []) ∙ omega arith in
    let words : ((w ++ (k ∷ [])) ++ (q.first ∷ [])) ++ (end_of q ∷ []) ≡ words_for (rs ++ (q ∷ [])) =
    append_snoc (w ++ (k ∷ [])) q.first (end_of q ∷ []) ∙ append_snoc w k (q.first ∷ end_of q ∷ []) ∙ sym (words_append rs (q ∷ [])) in
    let one = stored w e l (3 * len) k H.area at (omega arith) in
    let two = stored (w ++ (k ∷ [])) e (set l (3 * len) k) (3 * len + 1) q.first one at1 (omega arith) in
    let three = stored ((w ++ (k ∷ [])) ++ (q.first ∷ [])) e (set (set l (3 * len) k) (3 * len + 1) q.first) (3 * len + 2) (end_of q) two at2 (omega arith) in
    record {
      count = rw (apart len rs e l q H t) (ap (λ (n : ℕ). n + 1) H.count ∙ sym (length-append rs (q ∷ [])));
      area = three ∙ ap (λ (v : List ℕ). over v e) (words ∙ ap words_for (sym (apart len rs e l q H t)));
    }

pub goes_on-some : (l : List ℕ) (len kind first : ℕ) → goes_on l len kind first ≡ true → 1 ≤ len
goes_on-some l zero kind first t = absurd (let z : ◌≡◌ {A = ℕ} 0 1 = cc in omega arith)
goes_on-some l (suc len) kind first t = omega arith

module _ (given : Runs) (kind first end : ℕ) (left : Runs) (name : left.list.ghost_name ≡ given.list.ghost_name) where
  pub push-on : goes_on given.list.now given.len kind first ≡ true → left.len ≡ given.len → left.list.now ≡ set given.list.now (3 * given.len - 1) end
      → Pushed given kind first end left
  push-on t len list = record {
    few = omega (arith, len);
    same = record { name = name; long = rw list (length-set given.list.now (3 * given.len - 1) end) };
    holds = λ rs e q H a b d. rw (len, list, d) (pushed-on given.len rs e given.list.now q H (rw (a, b) at t));
  }

  pub push-new : goes_on given.list.now given.len kind first ≡ false → HasRoom 1 given → left.len ≡ given.len + 1
      → left.list.now ≡ set (set (set given.list.now (3 * given.len) kind) (3 * given.len + 1) first) (3 * given.len + 2) end
      → Pushed given kind first end left
  push-new t room len list = record {
    few = omega (arith, len);
    same = record { name = name; long = rw list (simp length-set) };
    holds = λ rs e q H a b d. rw (len, list, a, b, d) (pushed-new given.len rs e given.list.now q H (rw (a, b) at t) (holds-room H room));
  }
