-- Every call keeps the book rules, refused ones included, so they hold after any calls from a fresh sender: its own
-- books are never refused with 3.
use mathlib.Core.Path.{◌≡◌, refl, sym}
use mathlib.Core.Bool.{false, true}
use mathlib.Core.List.{List, [], ◌∷◌}
use Prim.Native.Nat.{◌+◌, ◌-◌, ◌^◌, ◌≤◌, max, ℕ}
use native.Mathlib.Omega.{arith}
use lib.Dec.{eqb, leb, ltb}
use lib.ListN.{length, take}
use lib.Seq.{drop-nil, take-nil}
use borrow.Author.Tests.{eqb-true, leb-true, not-false}
use Rattle.laws.specs.Bools.{and_l, and_r}
use Rattle.rules_refusals.specs.declared.Refusal.{Refusal}
use Rattle.rules_refusals.specs.Verdict.{accepted}
use Rattle.rules_refusals.specs.Table.{number_of}
use Rattle.laws.specs.Choice.{cond-by}
use Rattle.rules_numbers.specs.declared.Rtt.{Rtt}
use Rattle.rules_pacing.specs.declared.LiveBandwidthMode.{LiveBandwidthMode}
use Rattle.rules_pacing.specs.Period.{mode_in_range}
use Rattle.rules.specs.Ack.{ack_of, acknowledge, expect, given, take_rtt}
use Rattle.rules.specs.Calls.{Answer, Call, ack, after, answer, calls, left, message, nak, payload, runs, verdict_of, with_rtt}
use Rattle.rules.specs.Losses.{Item, report, runs_of, words_of, items_of}
use Rattle.rules_theorems.specs.Demands.{AllGiven, Given}
use Rattle.rules.specs.Refusals.{bad_rtt}
use Rattle.rules.specs.Sender.{Packet, Sender, fresh, remove, sent_of, wire_sizes}
use Rattle.rules.specs.Settings.{Settings, in_range}
use Rattle.rules_theorems.specs.Laws.BookRules.{Fields, Kept}
use Rattle.rules_theorems.specs.Laws.Calls.{answer-by}
use Rattle.rules_theorems.proofs.Entering.{enter_all-ascends, runs-inside}
use Rattle.rules_theorems.proofs.MessageKept.{push_kept}
use Rattle.rules_theorems.proofs.RunKept.{gone-kept, run-kept, same_kept}
use Rattle.rules_theorems.proofs.Verdicts.{ack-stale, ack-taken, message-taken, run-taken}
use Rattle.rules_numbers.specs.Rtt as RttOf
use Rattle.pacing.specs.Laws.Kept as PacingLaws
use Rattle.std.specs.Prelude.{Ok, Err, Option, None, Some}

module _ (c : Settings) where
  rtt-fields : (rtt : Option Rtt) (s : Sender) → bad_rtt rtt ≡ false → Fields c s.rtt s.messages s.expected s.held s.pacing
      → Fields c (given rtt s.rtt) s.messages s.expected s.held s.pacing
  unfolding given bad_rtt
  rtt-fields None s e o = o
  rtt-fields (Some rtt) s e o = record {
    settings = o.settings;
    rtt = not-false (RttOf.in_range rtt) e;
    messages = o.messages;
    least = o.least;
    most = o.most;
    held = o.held;
    pacing = o.pacing;
  }

  pub take_rtt-kept : (rtt : Option Rtt) (s : Sender) → bad_rtt rtt ≡ false → Kept c s → Kept c (take_rtt rtt s)
  unfolding take_rtt
  take_rtt-kept rtt s e g = same_kept c s (take_rtt rtt s) refl refl refl refl g.good.lost (rtt-fields rtt s e g.fields) g

  expect-fields : (n : ℕ) (full : Option ℕ) (rtt : Option Rtt) (s : Sender) → Given (ack n full rtt)
      → Fields c s.rtt s.messages s.expected s.held s.pacing
      → Fields c s.rtt s.messages (expect full s.expected) s.held s.pacing
  unfolding expect
  expect-fields n None rtt s h o = o
  expect-fields n (Some f) rtt s h o = record {
    settings = o.settings;
    rtt = o.rtt;
    messages = o.messages;
    least = omega arith;
    most = omega arith;
    held = o.held;
    pacing = o.pacing;
  }

  acknowledge-kept : (n d : ℕ) (full : Option ℕ) (rtt : Option Rtt) (s : Sender) → Given (ack n full rtt) → d ≤ sent_of s → Kept c s
      → Kept c (acknowledge c d full s)
  unfolding acknowledge
  acknowledge-kept n d full rtt s h l g =
      let r = gone-kept c d s (omega (arith, g.good.high)) g in
      let m : max s.next (s.front + d) ≡ s.next = omega (arith, g.good.low) in
      same_kept c (remove d (s.bytes - wire_sizes c (take d s.packets)) s) (acknowledge c d full s) refl refl (sym m) refl
      r.good.lost (expect-fields n full rtt s h g.fields) r

  pub report-kept : (is : List Item) (s : Sender) → Kept c s → Kept c (report is s)
  unfolding report
  report-kept is s g =
      same_kept c s (report is s) refl refl refl refl
      (enter_all-ascends s (runs_of s is) s.lost g.good.low (runs-inside s is) g.good.lost)
      g.fields g

  left-kept : (k : Call) (s : Sender) (r : Refusal) → verdict_of c k s ≡ Err r → Kept c s → Kept c (left k s r)
  unfolding left with_rtt verdict_of
  left-kept (message time now bytes) s r e g = cond-by (Kept c) (eqb (number_of r) 11) s s (λ q. g) (λ q. g)
  left-kept (ack n full rtt) s r e g =
      cond-by (Kept c) (eqb (number_of r) 11) (take_rtt rtt s) s
      (λ q. let x = ack-stale c n full rtt s r (eqb-true _ _ q) e in take_rtt-kept rtt s x.1 g) (λ q. g)
  left-kept (nak words room) s r e g = cond-by (Kept c) (eqb (number_of r) 11) s s (λ q. g) (λ q. g)
  left-kept (runs now p draining room) s r e g = cond-by (Kept c) (eqb (number_of r) 11) s s (λ q. g) (λ q. g)
  left-kept (payload n) s r e g = cond-by (Kept c) (eqb (number_of r) 11) s s (λ q. g) (λ q. g)

  pub size-least : in_range c ≡ true → 1 ≤ c.size
  unfolding in_range
  size-least e = leb-true _ _ (and_l (leb 1 c.size) _ (and_r (ltb c.first (2 ^ 31)) _ e))

  after_kept : (k : Call) (s : Sender) → Given k → verdict_of c k s ≡ accepted → Kept c s → Kept c (after c k s)
  unfolding after verdict_of take_rtt
  after_kept (message time now bytes) s h e g =
      let t = message-taken c time now (length bytes) s e in
      push_kept c time now (length bytes) s (size-least g.fields.settings) t.early t.soon t.full g
  after_kept (ack n full rtt) s h e g =
      let t = ack-taken c n full rtt s e in
      acknowledge-kept n (ack_of s n) full rtt (take_rtt rtt s) h t.near (take_rtt-kept rtt s t.rtt g)
  after_kept (nak words room) s h e g = report-kept (items_of (words_of words)) s g
  after_kept (runs now p draining room) s h e g = run-kept c now draining (run-taken c now p room s e).soon p s g
  after_kept (payload n) s h e g = g

  pub answer-kept : (k : Call) (s : Sender) → Given k → Kept c s → Kept c (answer c k s).after
  answer-kept k s h g = answer-by c k s (λ (a : Answer). Kept c a.after) (λ r e. left-kept k s r e g) (λ e. after_kept k s h e g)

  pub calls-kept : (ks : List Call) (s : Sender) → AllGiven ks → Kept c s → Kept c (calls c ks s)
  unfolding calls
  calls-kept [] s h g = g
  calls-kept (k ∷ ks) s h g = calls-kept ks _ h.1 (answer-kept k s h.0 g)

  pub fresh_kept : (mode : LiveBandwidthMode) → in_range c ≡ true → mode_in_range mode ≡ true → Kept c (fresh c mode)
  unfolding fresh wire_sizes
  fresh_kept mode h m = record {
    good = record { low = omega arith; high = omega arith; lost = tt };
    fits = omega arith;
    old = rw (take-nil {A = Packet} (c.first - c.first)) tt;
    new = rw (drop-nil {A = Packet} (c.first - c.first)) tt;
    small = omega arith;
    covers = omega arith;
    fields =
        record {
          settings = h;
          rtt = refl;
          messages = omega arith;
          least = omega arith;
          most = omega arith;
          held = tt;
          pacing = PacingLaws.fresh_kept mode m;
        };
  }
