-- The check of the numbers and the areas, and the whole check: what the code uses of them, and its tests in turn.
--   Numbered, Framed   the rules of the numbers and of the areas as facts
--   numbers_facts, facts_numbers, areas_facts, facts_areas   the tests decide these facts, both ways
--   all_packets        the first packets, as many as there are, are all of them
--   frame, frame-numbers, frame-areas   the numbers and the areas together
--   kept_frame, kept-entries, kept-rest   the definition's tests in turn: the numbers and the areas fail, the entries
--                      fail, or the last two tests decide. No code cites these three now
--   weighable          the wire sizes of checked entries can be summed
use Rattle.std.specs.Prelude.{◌≡◌, Bool, true, false, ◌&&◌, List, ℕ, ◌^◌, ◌≤◌, ◌<◌, ltb, leb, eqb, length, take}
use Rattle.std.proofs.Math.Bool.{and-eq-true_iff}
use Rattle.std.proofs.Common.{le_of_eq, arith}
use Rattle.std.proofs.Math.Seq.{take_all}
use borrow.Author.Tests.{ltb-true, leb-true, eqb-true, lt-ltb, le-leb, eq-eqb}
use Rattle.laws.specs.Bools.{and_l, and_r}
use Rattle.rules_numbers.specs.Rtt as Rtt
use Rattle.ring.specs.declared.Ring.{Ring}
use Rattle.ring.specs.Ring.{placed}
use Rattle.ring.specs.Ring.Laws.{Placed, placed_facts, facts_placed}
use Rattle.loss_list.specs.LossList.{keeps}
use Rattle.rules.specs.Settings.{Settings, in_range, capacity}
use Rattle.rules.specs.Sender.{wire_sizes}
use Rattle.buffer.specs.declared.SendBuffer.{SendBuffer}
use Rattle.buffer.specs.State.{state, packets_of}
use Rattle.buffer.specs.State.View.{packets-length}
use Rattle.buffer.specs.State.Facts.{range_facts}
use Rattle.buffer.specs.Removal.Laws.{Weighable}
use Rattle.book_rules.specs.Kept.{flushed_kept, numbers_kept, areas_kept, entries_kept, kept}
use Rattle.book_rules.specs.Kept.Entries.{entry-short}

-- ## The numbers and the areas

pub record Numbered (c : Settings) (b : SendBuffer) : Type 0 where
  pub settings : in_range c ≡ true
  pub front : b.front.0 < 2 ^ 31
  pub sent : b.sent ≤ b.ring.len
  pub bytes : b.bytes < 2 ^ 62
  pub least : 1 ≤ b.expected
  pub most : b.expected ≤ 2 ^ 32
  pub rtt : Rtt.in_range b.rtt ≡ true
  pub message : b.message.0 < 2 ^ 26
  pub flushed : flushed_kept c b.flushed ≡ true

pub record Framed (c : Settings) (b : SendBuffer) (xs ls : List ℕ) : Type 0 where
  pub placed : Placed b.ring xs
  pub cap : b.ring.cap ≡ capacity c
  pub room : b.ring.cap ≤ length ls

module _ (c : Settings) (b : SendBuffer) where
  pub numbers_facts : numbers_kept c b ≡ true → Numbered c b
  unfolding numbers_kept
  numbers_facts e =
      let r₁ = (and-eq-true_iff (in_range c) _).0 e in
      let r₂ = (and-eq-true_iff (ltb b.front.0 (2 ^ 31)) _).0 r₁.1 in
      let r₃ = (and-eq-true_iff (leb b.sent b.ring.len) _).0 r₂.1 in
      let r₄ = (and-eq-true_iff (ltb b.bytes (2 ^ 62)) _).0 r₃.1 in
      let r₅ = (and-eq-true_iff (leb 1 b.expected) _).0 r₄.1 in
      let r₆ = (and-eq-true_iff (leb b.expected (2 ^ 32)) _).0 r₅.1 in
      let r₇ = (and-eq-true_iff (Rtt.in_range b.rtt) _).0 r₆.1 in
      let r₈ = (and-eq-true_iff (ltb b.message.0 (2 ^ 26)) _).0 r₇.1 in
      record {
        settings = r₁.0;
        front = ltb-true _ _ r₂.0;
        sent = leb-true _ _ r₃.0;
        bytes = ltb-true _ _ r₄.0;
        least = leb-true _ _ r₅.0;
        most = leb-true _ _ r₆.0;
        rtt = r₇.0;
        message = ltb-true _ _ r₈.0;
        flushed = r₈.1;
      }

  pub facts_numbers : Numbered c b → numbers_kept c b ≡ true
  unfolding numbers_kept
  facts_numbers f =
      rw (
        f.settings,
        lt-ltb _ _ f.front,
        le-leb _ _ f.sent,
        lt-ltb _ _ f.bytes,
        le-leb _ _ f.least,
        le-leb _ _ f.most,
        f.rtt,
        lt-ltb _ _ f.message,
        f.flushed,
      )

  module _ (xs ls : List ℕ) where
    pub areas_facts : areas_kept c b (length xs) (length ls) ≡ true → Framed c b xs ls
    unfolding areas_kept
    areas_facts e =
        let r₁ = (and-eq-true_iff (placed b.ring (length xs)) _).0 e in
        let r₂ = (and-eq-true_iff (eqb b.ring.cap (capacity c)) _).0 r₁.1 in
        record { placed = placed_facts b.ring xs r₁.0; cap = eqb-true _ _ r₂.0; room = leb-true _ _ r₂.1 }

    pub facts_areas : Framed c b xs ls → areas_kept c b (length xs) (length ls) ≡ true
    unfolding areas_kept
    facts_areas f = rw (facts_placed b.ring xs f.placed, eq-eqb _ _ f.cap, le-leb _ _ f.room)

-- ## The whole check

-- the first packets, as many as there are, are all of them
pub all_packets : (r : Ring) (xs : List ℕ) → take r.len (packets_of r xs) ≡ packets_of r xs
all_packets r xs = take_all r.len (packets_of r xs) (le_of_eq (packets-length r xs))

module _ (c : Settings) (b : SendBuffer) (xs ls : List ℕ) where
  abbrev pub frame : Bool
  frame = numbers_kept c b && areas_kept c b (length xs) (length ls)

  pub kept_frame : frame ≡ false → kept c (state b xs ls) ≡ false
  unfolding kept
  kept_frame e = rw e

  module _ (e : frame ≡ true) where
    pub frame-numbers : Numbered c b
    frame-numbers = numbers_facts c b (and_l (numbers_kept c b) _ e)

    pub frame-areas : Framed c b xs ls
    frame-areas = areas_facts c b xs ls (and_r (numbers_kept c b) _ e)

    pub kept-entries : entries_kept c b xs ≡ false → kept c (state b xs ls) ≡ false
    unfolding kept
    kept-entries f = rw (e, f)

    module _ (f : entries_kept c b xs ≡ true) where
      pub weighable : Weighable c b.ring xs b.ring.len
      weighable =
          let s = range_facts c frame-numbers.settings in
          record {
            placed = frame-areas.placed;
            some = omega arith;
            overhead = s.overhead;
            lens = λ i h. omega (arith, s.size, (entry-short c b xs frame-numbers.sent f i h).1);
          }

      pub kept-rest :
          (leb (wire_sizes c (take b.ring.len (packets_of b.ring xs))) b.bytes && keeps b.front.0 b.sent b.lost ls) ≡ kept c (state b xs ls)
      unfolding kept
      kept-rest = rw (e, f, all_packets b.ring xs)
