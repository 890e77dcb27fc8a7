-- The store. A message writes each payload at its packet's place and nothing else; the last `capacity` packets ever
-- pushed have distinct places, so the payload of a buffered packet is in the store as it was pushed, whatever calls
-- came since.
use mathlib.Core.Path.{◌∙◌, ◌≡◌, ap, refl, sym}
use mathlib.Core.Bool.{Bool, false, true}
use mathlib.Core.List.{List, ◌++◌, append_assoc}
use mathlib.Core.Logic.{◌⊎◌, inl, inr}
use Prim.Native.Nat.{◌%◌, ◌*◌, ◌+◌, ◌-◌, ◌/◌, ◌<◌, ◌≤◌, suc, zero, ℕ}
use native.Mathlib.Omega.{arith}
use native.Mathlib.Nat.{div-add-mod', mod-lt, mul-le-mul_right}
use lib.Dec.{eqb, leb}
use lib.ListN.{get_or-append, drop, get_or, length, length-drop, length-take, take}
use lib.Seq.{get_or-append-add, get_or-drop, get_or-take, length-paste, paste}
use borrow.Author.Tests.{eqb-false, eqb-true, leb-false, leb-true}
use Rattle.rules_packets.specs.Split.{length_of, start_of}
use Rattle.rules.specs.Message.{written}
use Rattle.rules.specs.Settings.{Settings, capacity, place_of, store_size}

-- ## Pasting

module _ (d : List ℕ) (at : ℕ) (s : List ℕ) (n : ℕ) (fits : at + n ≤ length d) (has : n ≤ length s) where
  head_length : length (take at d) ≡ at
  head_length = simp length-take (omega arith)

  part_length : length (take n s) ≡ n
  part_length = simp length-take (omega arith)

  tail : List ℕ
  tail = take n s ++ drop (at + n) d

  -- past the head of the list
  past_head : (j : ℕ) → get_or (take at d ++ tail) (at + j) 0 ≡ get_or tail j 0
  past_head j =
      let e : at + j ≡ length (take at d) + j = omega (arith, head_length) in
      ap (λ (i : ℕ). get_or (take at d ++ tail) i 0) e ∙ get_or-append-add (take at d) tail j 0

  assoc : paste d at s n ≡ take at d ++ tail
  unfolding tail
  assoc = append_assoc (take at d) (take n s) (drop (at + n) d)

  pub paste_in : (j : ℕ) → j < n → get_or (paste d at s n) (at + j) 0 ≡ get_or s j 0
  unfolding tail
  paste_in j h =
      ap (λ (l : List ℕ). get_or l (at + j) 0) assoc
      ∙ (past_head j ∙ (get_or-append (take n s) (drop (at + n) d) 0 j (omega (arith, part_length)) ∙ get_or-take n s j 0 h))

  pub paste_before : (j : ℕ) → j < at → get_or (paste d at s n) j 0 ≡ get_or d j 0
  paste_before j h =
      ap (λ (l : List ℕ). get_or l j 0) assoc
      ∙ (get_or-append (take at d) tail 0 j (omega (arith, head_length)) ∙ get_or-take at d j 0 h)

  pub paste_behind : (j : ℕ) → at + n ≤ j → get_or (paste d at s n) j 0 ≡ get_or d j 0
  unfolding tail
  paste_behind j h =
      let e : j ≡ at + (n + (j - (at + n))) = omega arith in
      let f : n + (j - (at + n)) ≡ length (take n s) + (j - (at + n)) = omega (arith, part_length) in
      let g : at + n + (j - (at + n)) ≡ j = omega arith in
      ap (λ (l : List ℕ). get_or l j 0) assoc
      ∙ (ap (λ (i : ℕ). get_or (take at d ++ tail) i 0) e
      ∙ (past_head (n + (j - (at + n)))
      ∙ (ap (λ (i : ℕ). get_or tail i 0) f
      ∙ (get_or-append-add (take n s) (drop (at + n) d) (j - (at + n)) 0
      ∙ (get_or-drop (at + n) d (j - (at + n)) 0 ∙ ap (λ (i : ℕ). get_or d i 0) g)))))

-- ## Places

-- two different numbers less than m apart have different remainders
mod_differs : (m k l : ℕ) → 0 < m → k < l → l < k + m → k % m ≡ l % m → ⊥
mod_differs m k l pos h n e = go (leb (l / m) (k / m)) refl
  where
    go : (b : Bool) → leb (l / m) (k / m) ≡ b → ⊥
    go true q = let w = mul-le-mul_right m (leb-true (l / m) (k / m) q) in omega (arith, div-add-mod' k m, div-add-mod' l m, w)
    go false q =
        let less : k / m + 1 ≤ l / m = omega (arith, leb-false (l / m) (k / m) q) in
        let w = mul-le-mul_right m less in
        omega (arith, div-add-mod' k m, div-add-mod' l m, w)

module _ (c : Settings) where
  room : (k : ℕ) → k % capacity c * c.size + c.size ≤ store_size c
  room k =
      let pos : 0 < capacity c = omega arith in
      let less : k % capacity c + 1 ≤ capacity c = omega (arith, mod-lt k pos) in
      let w = mul-le-mul_right c.size less in
      omega arith

  -- the slots of two packets that are fewer than the capacity apart do not overlap
  apart : (k l : ℕ) → k < l → l < k + capacity c
      → (place_of c k + c.size ≤ place_of c l) ⊎ (place_of c l + c.size ≤ place_of c k)
  apart k l h n = go (leb (k % capacity c + 1) (l % capacity c)) refl
    where
      differ : k % capacity c ≡ l % capacity c → ⊥
      differ e = mod_differs (capacity c) k l (omega arith) h n e

      go : (b : Bool) → leb (k % capacity c + 1) (l % capacity c) ≡ b
          → (place_of c k + c.size ≤ place_of c l) ⊎ (place_of c l + c.size ≤ place_of c k)
      go true q =
          let less : k % capacity c + 1 ≤ l % capacity c = leb-true _ _ q in
          let w = mul-le-mul_right c.size less in
          inl (omega arith)
      go false q =
          let le : l % capacity c < k % capacity c + 1 = leb-false _ _ q in
          let less : l % capacity c + 1 ≤ k % capacity c = other (l % capacity c) (k % capacity c) (omega arith) (λ e. differ (sym e)) in
          let w = mul-le-mul_right c.size less in
          inr (omega arith)
        where
          other : (x y : ℕ) → x ≤ y → ¬ (x ≡ y) → x + 1 ≤ y
          other x y h n = by (eqb x y) refl
            where
              by : (b : Bool) → eqb x y ≡ b → x + 1 ≤ y
              by true e = absurd (n (eqb-true _ _ e))
              by false e = omega (arith, eqb-false x y e)

  -- ## What a message writes

  module _ (bytes : List ℕ) where
    abbrev pub part : ℕ → ℕ
    part i = length_of c.size (length bytes) i

    -- the store once packet i of the message, the k-th ever pushed, is written
    abbrev put_one : ℕ → ℕ → List ℕ → List ℕ
    put_one k i store = paste store (place_of c k) (drop (start_of c.size i) bytes) (part i)

    module _ (k i : ℕ) (store : List ℕ) (big : store_size c ≤ length store) where
      one-fits : place_of c k + part i ≤ length store
      one-fits = omega (arith, room k)

      one_has : part i ≤ length (drop (start_of c.size i) bytes)
      one_has = simp length-drop (omega arith)

      one-length : length (put_one k i store) ≡ length store
      one-length = length-paste store (place_of c k) (drop (start_of c.size i) bytes) (part i) one-fits one_has

      one_in : (j : ℕ) → j < part i → get_or (put_one k i store) (place_of c k + j) 0 ≡ get_or bytes (start_of c.size i + j) 0
      one_in j h =
          paste_in store (place_of c k) (drop (start_of c.size i) bytes) (part i) one-fits one_has j h
          ∙ get_or-drop (start_of c.size i) bytes j 0

      -- the slot of another packet, fewer than the capacity away
      one_out : (l j : ℕ) → l < k → k < l + capacity c → j < c.size
          → get_or (put_one k i store) (place_of c l + j) 0 ≡ get_or store (place_of c l + j) 0
      one_out l j lo hi h = by (apart l k lo hi)
        where
          by : (place_of c l + c.size ≤ place_of c k) ⊎ (place_of c k + c.size ≤ place_of c l)
              → get_or (put_one k i store) (place_of c l + j) 0 ≡ get_or store (place_of c l + j) 0
          by (inl w) =
              paste_before store (place_of c k) (drop (start_of c.size i) bytes) (part i) one-fits one_has (place_of c l + j) (omega arith)
          by (inr w) =
              paste_behind store (place_of c k) (drop (start_of c.size i) bytes) (part i) one-fits one_has (place_of c l + j) (omega arith)

    pub written-length : (k i n : ℕ) (store : List ℕ) → store_size c ≤ length store → length (written c bytes k i n store) ≡ length store
    unfolding written
    written-length k i zero store big = refl
    written-length k i (suc n) store big =
        let e = one-length k i store big in
        written-length (suc k) (suc i) n (put_one k i store) (omega (arith, e)) ∙ e

    -- the slot of an earlier packet stays, while the message stays fewer than the capacity away from it
    pub written_out : (k i n : ℕ) (store : List ℕ) → store_size c ≤ length store → (l j : ℕ) → l < k → k + n ≤ l + capacity c → j < c.size
        → get_or (written c bytes k i n store) (place_of c l + j) 0 ≡ get_or store (place_of c l + j) 0
    unfolding written
    written_out k i zero store big l j lo hi h = refl
    written_out k i (suc n) store big l j lo hi h =
        written_out (suc k) (suc i) n (put_one k i store) (omega (arith, one-length k i store big)) l j (omega arith) (omega arith) h
        ∙ one_out k i store big l j lo (omega arith) h

    -- a packet of the message lies at its place if at most the capacity of packets come from it on
    pub written_in : (k i n : ℕ) (store : List ℕ) → store_size c ≤ length store → (x j : ℕ) → x < n → n ≤ x + capacity c → j < part (i + x)
        → get_or (written c bytes k i n store) (place_of c (k + x) + j) 0 ≡ get_or bytes (start_of c.size (i + x) + j) 0
    unfolding written
    written_in k i zero store big x j h w l = absurd (omega arith)
    written_in k i (suc n) store big zero j h w l =
        let a : k + 0 ≡ k = omega arith in
        let b : i + 0 ≡ i = omega arith in
        rw (a, b)
        (written_out (suc k) (suc i) n (put_one k i store) (omega (arith, one-length k i store big)) k j (omega arith) (omega arith)
        (within j (rw b at l))
        ∙ one_in k i store big j (rw b at l))
      where
        within : (j : ℕ) → j < part i → j < c.size
        within j h = omega arith
    written_in k i (suc n) store big (suc x) j h w l =
        let a : k + suc x ≡ suc k + x = omega arith in
        let b : i + suc x ≡ suc i + x = omega arith in
        rw (a, b)
        (written_in (suc k) (suc i) n (put_one k i store) (omega (arith, one-length k i store big)) x j (omega arith) (omega arith)
        (rw b at l))

    -- "Only pushed payload bytes change": a byte of the store that lies in no packet's payload stays
    pub written-only : (k i n : ℕ) (store : List ℕ) → store_size c ≤ length store → (y : ℕ)
        → ((x : ℕ) → x < n → (y < place_of c (k + x)) ⊎ (place_of c (k + x) + length_of c.size (length bytes) (i + x) ≤ y))
        → get_or (written c bytes k i n store) y 0 ≡ get_or store y 0
    unfolding written
    written-only k i zero store big y h = refl
    written-only k i (suc n) store big y h =
        written-only (suc k) (suc i) n (put_one k i store) (omega (arith, one-length k i store big)) y
        (λ x l. next x (h (suc x) (omega arith)))
        ∙ here (h 0 (omega arith))
      where
        next : (x : ℕ) → (y < place_of c (k + suc x)) ⊎ (place_of c (k + suc x) + part (i + suc x) ≤ y)
            → (y < place_of c (suc k + x)) ⊎ (place_of c (suc k + x) + part (suc i + x) ≤ y)
        next x w =
            let a : k + suc x ≡ suc k + x = omega arith in
            let b : i + suc x ≡ suc i + x = omega arith in
            rw (a, b) at w

        here : (y < place_of c (k + 0)) ⊎ (place_of c (k + 0) + part (i + 0) ≤ y) → get_or (put_one k i store) y 0 ≡ get_or store y 0
        here (inl w) =
            let a : k + 0 ≡ k = omega arith in
            paste_before store (place_of c k) (drop (start_of c.size i) bytes) (part i) (one-fits k i store big)
            (one_has k i store big) y (rw a at w)
        here (inr w) =
            let a : k + 0 ≡ k = omega arith in
            let b : i + 0 ≡ i = omega arith in
            paste_behind store (place_of c k) (drop (start_of c.size i) bytes) (part i) (one-fits k i store big)
            (one_has k i store big) y (rw (a, b) at w)
