-- What the code that chooses uses, on plain lists.
--   Timed b ring, sent_ones   what `earliest` requires: the ring lies in its area, the sent packets are buffered; these
--   late-none, late-front, late-start, late-go, late-stop, late-end   rule 1's count, packet by packet
--   or_else, due-start, due-nearer, due-not, due-end   rule 3's choice, packet by packet
--   rest_window, rest-unsent, rest_flush, rest-input, rule-loss, rule-due, rule-rest
--                            the first that applies, from the code's tests
use Rattle.std.specs.Prelude.{◌≡◌, Bool, ◌||◌, ◌&&◌, cond, take, Option, Some, None, ℕ}
use Rattle.std.proofs.Math.Path.{refl, ap}
use Rattle.std.proofs.Common.{sym, ◌∙◌, arith, length-take, drop-cons, get_or-take}
use Rattle.std.proofs.Math.Bool.{true, false}
use mathlib.Core.List.{List, [], ◌∷◌}
use Prim.Native.Nat.{ℕ, zero, suc, ◌+◌, ◌≤◌, ◌<◌}
use Rattle.std.proofs.Math.Numerals.{add-one}
use Rattle.std.proofs.Math.Dec.{ltb, eqb}
use Rattle.std.proofs.Math.ListN.{length, drop, drop_of_length-le}
use borrow.Author.Tests.{lt-ltb, le-ltb, eqb-true}
use Rattle.ring.specs.Entry.{read_e}
use Rattle.ring.specs.Ring.{slot_of}
use Rattle.ring.specs.declared.Ring.{Ring}
use Rattle.ring.specs.Ring.Laws.{Placed}
use Rattle.rules.specs.Settings.{Settings, late_window}
use Rattle.rules.specs.Sender.{Packet, nothing}
use Rattle.rules.specs.Run.{late, late_from, earliest, or_here}
use Rattle.buffer.specs.declared.SendBuffer.{SendBuffer}
use Rattle.buffer.specs.State.{packet_of, packets_of}
use Rattle.buffer.specs.State.View.{packets-length, packets-at}
use Rattle.run_choice.specs.declared.Rule.TheVariants as rule
use Rattle.run_choice.specs.Choice.{rule_by, due_at, rule_at}

pub record Timed (b : SendBuffer) (ring : List ℕ) : Type 0 where
  pub placed : Placed b.ring ring
  pub sent : b.sent ≤ b.ring.len

-- ## Rule 1

either : (a b : Bool) (x y : ℕ) → (a || b) ≡ true → (b ≡ true → y ≡ x) → cond a (suc x) (cond b (suc y) 0) ≡ 1 + x
either true b x y e f = omega arith
either false true x y e f = omega (arith, f refl)
either false false x y e f = cc

neither : (a b : Bool) (x y : ℕ) → (a || b) ≡ false → cond a x (cond b y 0) ≡ 0
neither true b x y e = cc
neither false true x y e = cc
neither false false x y e = refl

module _ (c : Settings) (now : ℕ) (r : Ring) (ring : List ℕ) where
  -- the packets from packet i on, from its words
  from_at : (i : ℕ) → i < r.len → drop i (packets_of r ring) ≡ packet_of (read_e ring (slot_of r i)) ∷ drop (i + 1) (packets_of r ring)
  from_at i h =
      let long : i < length (packets_of r ring) = rw packets-length h in
      rw (add-one i) (drop-cons (packets_of r ring) i nothing long ∙ ap (λ (p : Packet). p ∷ drop (suc i) (packets_of r ring)) (packets-at r ring i h))

  pub late-none : r.len < 1 → late c now (packets_of r ring) ≡ 0
  unfolding late
  late-none h =
      let short : length (packets_of r ring) ≤ 0 = rw packets-length (omega arith) in
      let z : drop 0 (packets_of r ring) ≡ [] = drop_of_length-le (packets_of r ring) short in
      rw z

  pub late-front : 0 < r.len → ltb ((read_e ring (slot_of r 0)).time + late_window c) now ≡ false → late c now (packets_of r ring) ≡ 0
  unfolding late packet_of
  late-front h e = ap (late c now) (from_at 0 h) ∙ rw e

  pub late-start : 0 < r.len → ltb ((read_e ring (slot_of r 0)).time + late_window c) now ≡ true
      → late c now (packets_of r ring) ≡ 1 + late_from c now (read_e ring (slot_of r 0)).message (drop 1 (packets_of r ring))
  unfolding late packet_of
  late-start h e = ap (late c now) (from_at 0 h) ∙ rw e (omega arith)

  module _ (i m : ℕ) (h : i < r.len) where
    pub late-go : (ltb ((read_e ring (slot_of r i)).time + late_window c) now || eqb (read_e ring (slot_of r i)).message m) ≡ true
        → late_from c now m (drop i (packets_of r ring)) ≡ 1 + late_from c now (read_e ring (slot_of r i)).message (drop (i + 1) (packets_of r ring))
    unfolding late_from packet_of
    late-go e =
        let q = read_e ring (slot_of r i) in
        ap (late_from c now m) (from_at i h)
        ∙ either (ltb (q.time + late_window c) now) (eqb q.message m) (late_from c now q.message (drop (i + 1) (packets_of r ring))) (late_from c now m (drop (i + 1) (packets_of r ring))) e
        (λ d. ap (λ (k : ℕ). late_from c now k (drop (i + 1) (packets_of r ring))) (sym (eqb-true q.message m d)))

    pub late-stop : (ltb ((read_e ring (slot_of r i)).time + late_window c) now || eqb (read_e ring (slot_of r i)).message m) ≡ false
        → late_from c now m (drop i (packets_of r ring)) ≡ 0
    unfolding late_from packet_of
    late-stop e =
        let q = read_e ring (slot_of r i) in
        ap (late_from c now m) (from_at i h) ∙ neither (ltb (q.time + late_window c) now) (eqb q.message m) _ _ e

  pub late-end : (i m : ℕ) → r.len ≤ i → late_from c now m (drop i (packets_of r ring)) ≡ 0
  unfolding late_from
  late-end i m h =
      let short : length (packets_of r ring) ≤ i = rw packets-length h in
      ap (late_from c now m) (drop_of_length-le (packets_of r ring) short)

-- ## Rule 3

-- the choice among the packets behind, or else what was found before them
abbrev pub or_else : Option ℕ → Option ℕ → Option ℕ
or_else None o = o
or_else (Some m) o = Some m

or-none : (o : Option ℕ) → or_else o None ≡ o
or-none None = refl
or-none (Some m) = refl

here-or : (o : Option ℕ) (i : ℕ) (d : Option ℕ) → or_else (or_here i o) d ≡ or_else o (Some i)
unfolding or_here
here-or None i d = refl
here-or (Some m) i d = refl

module _ (b : SendBuffer) (ring : List ℕ) (T : Timed b ring) where
  abbrev pub sent_ones : List Packet
  sent_ones = take b.sent (packets_of b.ring ring)

  sent-at : (i : ℕ) → i < b.sent → drop i sent_ones ≡ packet_of (read_e ring (slot_of b.ring i)) ∷ drop (i + 1) sent_ones
  sent-at i h =
      let inside : i < b.ring.len = omega (arith, T.sent) in
      let long : i < length sent_ones = simp (length-take, packets-length) (omega (arith, T.sent)) in
      rw (add-one i) (drop-cons sent_ones i nothing long
      ∙ ap (λ (p : Packet). p ∷ drop (suc i) sent_ones) (get_or-take b.sent (packets_of b.ring ring) i nothing h ∙ packets-at b.ring ring i inside))

  pub due-start : (now : ℕ) → or_else (earliest now 0 (drop 0 sent_ones)) None ≡ due_at now b ring
  due-start now = or-none (earliest now 0 sent_ones)

  module _ (i before : ℕ) (o : Option ℕ) (h : i < b.sent) where
    pub due-nearer : (read_e ring (slot_of b.ring i)).resend < before
        → or_else (earliest before i (drop i sent_ones)) o
        ≡ or_else (earliest (read_e ring (slot_of b.ring i)).resend (i + 1) (drop (i + 1) sent_ones)) (Some i)
    unfolding earliest packet_of
    due-nearer l =
        let q = read_e ring (slot_of b.ring i) in
        let less : ltb q.resend before ≡ true = lt-ltb q.resend before l in
        ap (λ (ps : List Packet). or_else (earliest before i ps) o) (sent-at i h)
        ∙ rw (less, add-one i) (here-or (earliest q.resend (suc i) (drop (suc i) sent_ones)) i o)

    pub due-not : before ≤ (read_e ring (slot_of b.ring i)).resend
        → or_else (earliest before i (drop i sent_ones)) o ≡ or_else (earliest before (i + 1) (drop (i + 1) sent_ones)) o
    unfolding earliest packet_of
    due-not l =
        let q = read_e ring (slot_of b.ring i) in
        let more : ltb q.resend before ≡ false = le-ltb q.resend before l in
        ap (λ (ps : List Packet). or_else (earliest before i ps) o) (sent-at i h) ∙ rw (more, add-one i)

  pub due-end : (i before : ℕ) (o : Option ℕ) → b.sent ≤ i → or_else (earliest before i (drop i sent_ones)) o ≡ o
  unfolding earliest
  due-end i before o h =
      let short : length sent_ones ≤ i = simp (length-take, packets-length) (omega arith) in
      ap (λ (ps : List Packet). or_else (earliest before i ps) o) (drop_of_length-le sent_ones short)

-- ## The first that applies

module _ (o m x : Bool) where
  pub rest_window : o ≡ true → rule.Window ≡ rule_by 0 None o m x
  unfolding rule_by
  rest_window e = rw e

  pub rest-unsent : o ≡ false → m ≡ true → rule.Unsent ≡ rule_by 0 None o m x
  unfolding rule_by
  rest-unsent e f = rw (e, f)

  pub rest_flush : o ≡ false → m ≡ false → x ≡ true → rule.Flush ≡ rule_by 0 None o m x
  unfolding rule_by
  rest_flush e f g = rw (e, f, g)

  pub rest-input : o ≡ false → m ≡ false → x ≡ false → rule.Input ≡ rule_by 0 None o m x
  unfolding rule_by
  rest-input e f g = rw (e, f, g)

module _ (c : Settings) (now : ℕ) (draining : Bool) (b : SendBuffer) (ring : List ℕ) where
  pub rule-loss : 0 < b.lost → rule.Loss ≡ rule_at c now draining b ring
  unfolding rule_at rule_by
  rule-loss h = go b.lost h
    where
      go : (n : ℕ) → 0 < n → rule.Loss ≡ rule_by n (due_at now b ring) (ltb c.flow b.sent) (ltb b.sent b.ring.len) (draining && eqb b.ring.len 1)
      go zero l = absurd (omega arith)
      go (suc n) l = refl

  pub rule-due : (i : ℕ) → b.lost ≡ 0 → due_at now b ring ≡ Some i → rule.Due i ≡ rule_at c now draining b ring
  unfolding rule_at rule_by
  rule-due i e d = rw (e, d)

  pub rule-rest : b.lost ≡ 0 → due_at now b ring ≡ None
      → rule_by 0 None (ltb c.flow b.sent) (ltb b.sent b.ring.len) (draining && eqb b.ring.len 1) ≡ rule_at c now draining b ring
  unfolding rule_at
  rule-rest e d = rw (e, d)
