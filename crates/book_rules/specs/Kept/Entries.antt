-- The check of the entries: what the code uses of it, and what it shows.
--   sent_is, unsent-is         the rules of an entry, test by test
--   all-at, all-by             what holds of all entries holds of each, and conversely
--   all-on, all-not, all_end   the check of a run of entries, entry by entry: the entry holds, it fails, none is left.
--                              Steps of the definition: no code cites them now
--   no-entry                   an entry of zeros
--   entry-sent, entry-unsent, entry-short, entries_by
--                              the check of all entries is the check of each, and conversely; an entry's place and
--                              length
--   sent-fails, sent-holds     the check of all, from the checks of the sent packets and of the unsent ones
--   entries-is                 the check of all is that of the sent packets and that of the unsent ones: two tests of
--                              the definition, which no code cites now
use Rattle.std.specs.Prelude.{◌≡◌, Bool, true, false, ◌&&◌, ltb, leb, eqb, length, take, drop, get_or}
use Rattle.std.proofs.Math.Path.{refl, sym, ap, ap₂}
use Rattle.std.specs.List.{list_all, range_with_len}
use Rattle.std.proofs.Common.{◌∙◌, add-one, zero-add, le_of_eq, arith, length-drop, drop_of_length-le, take_all, length-take-le, drop-cons, get_or-take, get_or-drop, leb-true}
use Rattle.std.proofs.Math.Bool.{and-eq-true_iff, and-true}
use mathlib.Core.List.{List, [], ◌∷◌}
use Prim.Native.Nat.{ℕ, zero, suc, ◌+◌, ◌-◌, ◌^◌, ◌≤◌, ◌<◌}
use Rattle.std.proofs.Math.Decide.{dec_lt}
use Rattle.laws.specs.Bools.{and_l, and_r}
use Rattle.ring.specs.declared.Entry.{Entry}
use Rattle.ring.specs.Entry.{entry, read_e}
use Rattle.ring.specs.Ring.{slot_of, tab, packets}
use Rattle.ring.specs.Ring.Laws.{packets-length, packets-at}
use Rattle.rules.specs.Settings.{Settings}
use Rattle.rules.specs.BookRules.{every, sent_kept, unsent_kept}
use Rattle.buffer.specs.declared.SendBuffer.{SendBuffer}
use Rattle.buffer.specs.State.{packet_of}
use Rattle.book_rules.specs.Kept.{all, sent_entry, unsent_entry, entry_kept, entries_kept}

-- ## One entry

module _ (c : Settings) (e : Entry) where
  pub sent_is :
      (leb e.place 3 && (ltb e.time (2 ^ 48) && (ltb e.message (2 ^ 26) && (leb e.len c.size
      && (leb 1 e.count && (leb e.count 65_535 && ltb e.resend (2 ^ 49)))))))
      ≡ sent_entry c e
  unfolding sent_entry sent_kept every packet_of
  sent_is = rw (and-true (ltb e.resend (2 ^ 49)))

  pub unsent-is :
      (leb e.place 3 && (ltb e.time (2 ^ 48) && (ltb e.message (2 ^ 26) && (leb e.len c.size
      && (eqb e.count 0 && eqb e.resend 0)))))
      ≡ unsent_entry c e
  unfolding unsent_entry unsent_kept every packet_of
  unsent-is = rw (and-true (eqb e.resend 0))

  -- both kinds of entry have a two-bit place, and are no longer than a packet
  short : (rest : Bool) → (leb e.place 3 && (ltb e.time (2 ^ 48) && (ltb e.message (2 ^ 26) && (leb e.len c.size && rest)))) ≡ true
      → (e.place ≤ 3) × (e.len ≤ c.size)
  short rest h =
      let r₁ = (and-eq-true_iff (leb e.place 3) _).0 h in
      let r₂ = and_r (ltb e.message (2 ^ 26)) _ (and_r (ltb e.time (2 ^ 48)) _ r₁.1) in
      (leb-true _ _ r₁.0, leb-true _ _ (and_l (leb e.len c.size) _ r₂))

  sent-short : sent_entry c e ≡ true → (e.place ≤ 3) × (e.len ≤ c.size)
  sent-short h = short _ (sent_is ∙ h)

  unsent-short : unsent_entry c e ≡ true → (e.place ≤ 3) × (e.len ≤ c.size)
  unsent-short h = short _ (unsent-is ∙ h)

-- ## A run of entries

pub no-entry : Entry
no-entry = entry 0 0 0 0 0 0

module _ (t : Entry → Bool) where
  pub all-at : (es : List Entry) (i : ℕ) (d : Entry) → i < length es → all t es ≡ true → t (get_or es i d) ≡ true
  unfolding all
  all-at [] i d h e = absurd (omega arith)
  all-at (x ∷ xs) zero d h e = and_l (t x) (all t xs) e
  all-at (x ∷ xs) (suc i) d h e = all-at xs i d (omega arith) (and_r (t x) (all t xs) e)

  pub all-by : (es : List Entry) (d : Entry) → ((i : ℕ) → i < length es → t (get_or es i d) ≡ true) → all t es ≡ true
  unfolding all
  all-by [] d f = refl
  all-by (x ∷ xs) d f = rw (f 0 (omega arith)) (all-by xs d (λ i h. f (suc i) (omega arith)))

  module _ (es : List Entry) (n : ℕ) (room : n ≤ length es) where
    module _ (i : ℕ) (d : Entry) (inside : i < n) where
      cut : drop i (take n es) ≡ get_or es i d ∷ drop (i + 1) (take n es)
      cut =
          let len : length (take n es) ≡ n = length-take-le n es room in
          rw (add-one i) (drop-cons (take n es) i d (omega arith) ∙ ap (λ (y : Entry). y ∷ drop (suc i) (take n es)) (get_or-take n es i d inside))

      pub all-on : t (get_or es i d) ≡ true → all t (drop i (take n es)) ≡ all t (drop (i + 1) (take n es))
      unfolding all
      all-on h = ap (all t) cut ∙ rw h

      pub all-not : t (get_or es i d) ≡ false → all t (drop i (take n es)) ≡ false
      unfolding all
      all-not h = ap (all t) cut ∙ rw h

    pub all_end : all t (drop n (take n es)) ≡ true
    unfolding all
    all_end = ap (all t) (drop_of_length-le (take n es) (le_of_eq (length-take-le n es room)))

  -- the test of each of n values in turn is the test of their list
  all-tab : (k n : ℕ) (f : ℕ → Entry) → list_all (λ i. t (f i)) (range_with_len k n) ≡ all t (tab k n f)
  unfolding all
  all-tab k zero f = refl
  all-tab k (suc n) f = ap (λ (b : Bool). t (f k) && b) (rw (add-one k) (all-tab (suc k) n f))

take-tab : (m k n : ℕ) (f : ℕ → Entry) → m ≤ n → take m (tab k n f) ≡ tab k m f
take-tab zero k n f h = refl
take-tab (suc m) k zero f h = absurd (omega arith)
take-tab (suc m) k (suc n) f h = ap (λ (es : List Entry). f k ∷ es) (take-tab m (suc k) n f (omega arith))

drop-tab : (m k n : ℕ) (f : ℕ → Entry) → m ≤ n → drop m (tab k n f) ≡ tab (k + m) (n - m) f
drop-tab zero k n f h = ap₂ (λ (i m : ℕ). tab i m f) (omega arith) (omega arith)
drop-tab (suc m) k zero f h = absurd (omega arith)
drop-tab (suc m) k (suc n) f h =
    drop-tab m (suc k) n f (omega arith) ∙ ap₂ (λ (i l : ℕ). tab i l f) (omega arith) (omega arith)

-- ## Every entry

module _ (c : Settings) (b : SendBuffer) (xs : List ℕ) (few : b.sent ≤ b.ring.len) where
  -- the entry of packet i
  abbrev at : ℕ → Entry
  at i = read_e xs (slot_of b.ring i)

  early : (i : ℕ) → i < b.sent → get_or (take b.sent (packets b.ring xs)) i no-entry ≡ at i
  early i h = get_or-take b.sent (packets b.ring xs) i no-entry h ∙ packets-at b.ring xs i no-entry (omega arith)

  late : (i : ℕ) → b.sent + i < b.ring.len → get_or (drop b.sent (packets b.ring xs)) i no-entry ≡ at (b.sent + i)
  late i h = get_or-drop b.sent (packets b.ring xs) i no-entry ∙ packets-at b.ring xs (b.sent + i) no-entry h

  early-length : length (take b.sent (packets b.ring xs)) ≡ b.sent
  early-length = length-take-le b.sent (packets b.ring xs) (rw packets-length few)

  late-length : length (drop b.sent (packets b.ring xs)) ≡ b.ring.len - b.sent
  late-length = simp (length-drop, packets-length)

  module _ (e : entries_kept c b xs ≡ true) where
    both : (all (entry_kept c true) (take b.sent (packets b.ring xs)) ≡ true) × (all (entry_kept c false) (drop b.sent (packets b.ring xs)) ≡ true)
    unfolding entries_kept
    both = (and-eq-true_iff (all (entry_kept c true) (take b.sent (packets b.ring xs))) _).0 e

    pub entry-sent : (i : ℕ) → i < b.sent → sent_entry c (at i) ≡ true
    entry-sent i h =
        rw (early i h) at (all-at (entry_kept c true) (take b.sent (packets b.ring xs)) i no-entry (rw early-length h) both.0)

    pub entry-unsent : (i : ℕ) → b.sent ≤ i → i < b.ring.len → unsent_entry c (at i) ≡ true
    entry-unsent i h k =
        let j : b.sent + (i - b.sent) ≡ i = omega arith in
        rw (late (i - b.sent) (omega arith), j) at
        (all-at (entry_kept c false) (drop b.sent (packets b.ring xs)) (i - b.sent) no-entry (rw late-length (omega arith)) both.1)

    pub entry-short : (i : ℕ) → i < b.ring.len → ((at i).place ≤ 3) × ((at i).len ≤ c.size)
    entry-short i h = go (dec_lt i b.sent)
      where
        go : Dec (i < b.sent) → ((at i).place ≤ 3) × ((at i).len ≤ c.size)
        go (yes l) = sent-short c (at i) (entry-sent i l)
        go (no l) = unsent-short c (at i) (entry-unsent i (omega arith) h)

  pub entries_by : ((i : ℕ) → i < b.sent → sent_entry c (at i) ≡ true) → ((i : ℕ) → b.sent ≤ i → i < b.ring.len → unsent_entry c (at i) ≡ true)
      → entries_kept c b xs ≡ true
  unfolding entries_kept
  entries_by f g =
      let p = all-by (entry_kept c true) (take b.sent (packets b.ring xs)) no-entry
      (λ i h. let k : i < b.sent = rw early-length at h in rw (early i k) (f i k)) in
      let q = all-by (entry_kept c false) (drop b.sent (packets b.ring xs)) no-entry
      (λ i h. let k : i < b.ring.len - b.sent = rw late-length at h in rw (late i (omega arith)) (g (b.sent + i) (omega arith) (omega arith))) in
      rw (p, q)

  -- the sent packets' check fails, or the unsent packets' check decides
  sent_run : list_all (λ i. sent_entry c (at i)) (range_with_len 0 b.sent) ≡ all (entry_kept c true) (take b.sent (packets b.ring xs))
  unfolding packets
  sent_run = all-tab (entry_kept c true) 0 b.sent at ∙ ap (all (entry_kept c true)) (sym (take-tab b.sent 0 b.ring.len at few))

  unsent_run : list_all (λ i. unsent_entry c (at i)) (range_with_len b.sent (b.ring.len - b.sent))
      ≡ all (entry_kept c false) (drop b.sent (packets b.ring xs))
  unfolding packets
  unsent_run = all-tab (entry_kept c false) b.sent (b.ring.len - b.sent) at ∙ ap (all (entry_kept c false)) (sym (rw zero-add at (drop-tab b.sent 0 b.ring.len at few)))

  pub sent-fails : (r : Bool) → r ≡ false → r ≡ list_all (λ i. sent_entry c (at i)) (range_with_len 0 b.sent) → r ≡ entries_kept c b xs
  unfolding entries_kept
  sent-fails r f e = rw (← sent_run, ← e, f)

  pub sent-holds : (p r : Bool) → p ≡ true → p ≡ list_all (λ i. sent_entry c (at i)) (range_with_len 0 b.sent)
      → r ≡ list_all (λ i. unsent_entry c (at i)) (range_with_len b.sent (b.ring.len - b.sent))
      → r ≡ entries_kept c b xs
  unfolding entries_kept
  sent-holds p r t e f = rw (← sent_run, ← unsent_run, ← e, t, f)

-- the check of the sent packets, and of the unsent ones
pub entries-is : (c : Settings) (b : SendBuffer) (xs : List ℕ)
    → (all (entry_kept c true) (drop 0 (take b.sent (packets b.ring xs)))
    && all (entry_kept c false) (drop b.sent (take b.ring.len (packets b.ring xs))))
    ≡ entries_kept c b xs
unfolding entries_kept
entries-is c b xs = rw (take_all b.ring.len (packets b.ring xs) (le_of_eq (packets-length b.ring xs)))
