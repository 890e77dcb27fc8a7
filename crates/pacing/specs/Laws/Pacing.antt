-- What the layers above use of an input.
--   Accepted s now p b, accepted   what is known of an input that no test refuses
--   on_input-accepted              such an input is never refused
--   input-due, input_silent        it is answered with a period exactly if an estimate is due
--   moved-kept, after_kept         an accepted input keeps the book rules
--   moved-room                     and there is room for what it adds
--   Moves, Ahead, after-ahead      after a first input, and after an estimate, next lies past now, by at most 100,000
--                                  µs
use Rattle.std.specs.Prelude.{◌≡◌, refl, Bool, cond, ℕ, ◌+◌, ◌^◌, ◌<◌, ◌≤◌, leb, Option, Some, None, Ok}
use Rattle.std.proofs.Math.Bool.{true, false}
use mathlib.Mathlib.Data.Bool.Basic.{or-eq-false-eq-eq-false-and-eq-false as neither}
use Prim.{Unit}
use native.Mathlib.Omega.{arith}
use borrow.Author.Tests.{ltb-false, le-ltb, leb-true, le-leb, lt-leb}
use Rattle.laws.specs.Choice.{cond-by}
use Rattle.rules_pacing.specs.declared.SenderCongestionControl.{SenderCongestionControl}
use Rattle.rules_pacing.specs.Rate.{elapsed, estimate, passes}
use Rattle.rate.specs.Laws.{estimate-ranged, increment-ranged}
use Rattle.rules_pacing.specs.Kept.{kept}
use Rattle.pacing.specs.Laws.Kept.{Kept, kept_facts, facts_kept}
use Rattle.rules_pacing.specs.Pacing.{due, since, count_full, estimated, moved_at, moved, added, after, snd_period, input, on_input}

pub record Accepted (s : SenderCongestionControl) (now p b : ℕ) : Type 0 where
  pub kept : Kept s
  pub time : now < 2 ^ 48
  pub packets : since s.next now s.packets.count + p ≤ 2 ^ 38
  pub bytes : since s.next now s.bytes.count + b ≤ 2 ^ 38

-- the first input, or one that finds an estimate due
abbrev pub Moves : Option ℕ → ℕ → Type 0
Moves None now = Unit
Moves (Some next) now = next ≤ now

abbrev pub Ahead : ℕ → Option ℕ → Type 0
Ahead now None = ⊥
Ahead now (Some next) = (now < next) × (next ≤ now + 100_000)

abbrev Counts : SenderCongestionControl → ℕ → ℕ → Type 0
Counts s p b = (s.packets.count ≡ p) × (s.bytes.count ≡ b)

module _ (s : SenderCongestionControl) (next now : ℕ) where
  estimated-kept : Kept s → next ≤ now → now < 2 ^ 48 → Kept (estimated s next now)
  unfolding estimated
  estimated-kept h hd ht =
      record {
        next = omega arith;
        packets = estimate-ranged (elapsed now next) s.packets h.packets (omega arith);
        bytes = estimate-ranged (elapsed now next) s.bytes h.bytes (omega arith);
        mode = h.mode;
      }

  estimated-ahead : next ≤ now → Ahead now (estimated s next now).next
  unfolding estimated
  estimated-ahead h = omega arith

  estimated-since : (t : Bool) → Counts (cond t (estimated s next now) s) (cond t 0 s.packets.count) (cond t 0 s.bytes.count)
  unfolding estimated estimate
  estimated-since true = (refl, refl)
  estimated-since false = (refl, refl)

module _ (s : SenderCongestionControl) (now : ℕ) where
  pub moved-kept : Kept s → now < 2 ^ 48 → Kept (moved s now)
  unfolding moved moved_at
  moved-kept h ht = at s.next
    where
      at : (n : Option ℕ) → Kept (moved_at n s now)
      at None = record { next = omega arith; packets = h.packets; bytes = h.bytes; mode = h.mode }
      at (Some next) = cond-by Kept (leb next now) (estimated s next now) s (λ t. estimated-kept s next now h (leb-true _ _ t) ht) (λ _. h)

  -- the counts once next has moved are those that `count_full` tests
  moved-since : Counts (moved s now) (since s.next now s.packets.count) (since s.next now s.bytes.count)
  unfolding moved moved_at
  moved-since = at s.next
    where
      at : (n : Option ℕ) → Counts (moved_at n s now) (since n now s.packets.count) (since n now s.bytes.count)
      at None = (refl, refl)
      at (Some next) = estimated-since s next now (leb next now)

module _ (s : SenderCongestionControl) (now p b : ℕ) where
  pub accepted : kept s ≡ true → now < 2 ^ 48 → count_full s now p b ≡ false → Accepted s now p b
  unfolding count_full
  accepted hk ht hc =
      let room = (neither (passes (since s.next now s.packets.count) p) (passes (since s.next now s.bytes.count) b)).0 hc in
      record { kept = kept_facts s hk; time = ht; packets = ltb-false _ _ room.0; bytes = ltb-false _ _ room.1 }

  pub on_input-accepted : Accepted s now p b → on_input s now p b ≡ input s now p b
  unfolding on_input count_full
  on_input-accepted h = rw (facts_kept s h.kept, lt-leb _ _ h.time, le-ltb _ _ h.packets, le-ltb _ _ h.bytes)

  pub input-due : due s.next now ≡ true → input s now p b ≡ Ok (Some (snd_period (moved s now)), after s now p b)
  unfolding input
  input-due d = rw d

  pub input_silent : due s.next now ≡ false → input s now p b ≡ Ok (None, after s now p b)
  unfolding input
  input_silent d = rw d

  pub moved-room : Accepted s now p b → ((moved s now).packets.count + p ≤ 2 ^ 38) × ((moved s now).bytes.count + b ≤ 2 ^ 38)
  moved-room h = let same = moved-since s now in rw (same.0, same.1) (h.packets, h.bytes)

  pub after_kept : Accepted s now p b → Kept (after s now p b)
  unfolding after added
  after_kept h =
      let m = moved s now in
      let k : Kept m = moved-kept s now h.kept h.time in
      let room = moved-room h in
      record {
        next = k.next;
        packets = increment-ranged m.packets p k.packets room.0;
        bytes = increment-ranged m.bytes b k.bytes room.1;
        mode = k.mode;
      }

  pub after-ahead : Moves s.next now → Ahead now (after s now p b).next
  unfolding after added moved moved_at
  after-ahead = at s.next
    where
      at : (n : Option ℕ) → Moves n now → Ahead now (moved_at n s now).next
      at None h = omega arith
      at (Some next) h = rw (le-leb next now h) (estimated-ahead s next now h)
