-- What is known of an accepted call, and of an ACK refused as stale: none of the earlier tests holds.
--   Pushable, Ackable, Runnable           what is known of an accepted message, ACK, run
--   message-taken, ack-taken, run-taken   it holds
--   ack-stale                             an ACK refused with 11: the books keep the rules, and its RTT is in range
--   not-kept, when-past                   if the books break a rule every call answers 3; a refusal after the first of a chain
use mathlib.Core.Path.{◌≡◌, ap, refl}
use mathlib.Core.Bool.{Bool, ◌||◌, false, not, true, true≢false}
use Prim.Native.Nat.{◌+◌, ◌<◌, ◌^◌, ◌≤◌, min, ℕ}
use native.Mathlib.Omega.{arith}
use lib.Dec.{eqb, leb, ltb}
use lib.ListN.{length}
use borrow.Author.Tests.{leb-false, ltb-false, not-false}
use Rattle.rules_refusals.specs.declared.Refusal.{Refusal}
use Rattle.rules_refusals.specs.declared.Refusal.TheVariants.{BadNumber, BadRtt, BadState, Empty, InvalidAck}
use Rattle.rules_refusals.specs.Verdict.{Verdict, accepted, refused, verdict_number, when}
use Rattle.refusals.specs.Laws.{never, when-accepted}
use Rattle.rules_refusals.specs.Table.{number_of}
use Rattle.rules_numbers.specs.declared.Rtt.{Rtt}
use Rattle.rules.specs.Ack.{ack_of}
use Rattle.rules.specs.BookRules.{kept}
use Rattle.rules.specs.Numbers.{wire}
use Rattle.rules.specs.Refusals.{ack_verdict, bad_rtt, count_is_full, full_verdict, message_verdict, run_verdict}
use Rattle.rules.specs.Sender.{Sender, sent_of}
use Rattle.rules.specs.Settings.{Settings}
use Rattle.rules_theorems.specs.Laws.BookRules.{Kept, kept_facts}
use Rattle.std.specs.Prelude.{Ok, Err, Option}

differ : {A : Type 0} {r q : Refusal} → refused r ≡ refused q → ¬ (number_of r ≡ number_of q) → A
differ {r = r} {q = q} e h = absurd (h (ap verdict_number e))

pub when-past : (t : Bool) (r : Refusal) (v : Verdict) (q : Refusal) → ¬ (number_of r ≡ number_of q) → when t r v ≡ Err q
    → (t ≡ false) × (v ≡ Err q)
when-past true r v q h e = differ e h
when-past false r v q h e = (refl, e)

pub or-false : (a b : Bool) → (a || b) ≡ false → (a ≡ false) × (b ≡ false)
or-false false b e = (refl, e)
or-false true b e = (e, absurd (true≢false e))

abbrev invalid : ℕ → Sender → Refusal
invalid n s = InvalidAck (record { 0 = n }) (record { 0 = wire s.front }) (record { 0 = wire s.next })

module _ (c : Settings) where
  pub record Pushable (t now n : ℕ) (s : Sender) : Type 0 where
    pub kept : Kept c s
    pub early : t < 2 ^ 48
    pub soon : now < 2 ^ 48
    pub short : n ≤ 1_048_576
    pub full : count_is_full c now n s ≡ false

  pub message-taken : (t now n : ℕ) (s : Sender) → message_verdict c t now n s ≡ accepted → Pushable t now n s
  unfolding message_verdict
  message-taken t now n s e =
      let a = when-accepted _ _ _ e in
      let b = when-accepted _ _ _ a.1 in
      let d = when-accepted _ _ _ b.1 in
      let f = when-accepted _ _ _ d.1 in
      let times = or-false (leb (2 ^ 48) t) (leb (2 ^ 48) now) b.0 in
      record {
        kept = kept_facts c s (not-false _ a.0);
        early = leb-false _ _ times.0;
        soon = leb-false _ _ times.1;
        short = ltb-false _ _ d.0;
        full = f.0;
      }

  pub record Ackable (n : ℕ) (f : Option ℕ) (r : Option Rtt) (s : Sender) : Type 0 where
    pub kept : Kept c s
    pub number : n < 2 ^ 31
    pub rtt : bad_rtt r ≡ false
    pub near : ack_of s n ≤ sent_of s
    pub full : full_verdict f s.expected ≡ accepted

  pub ack-taken : (n : ℕ) (full : Option ℕ) (rtt : Option Rtt) (s : Sender) → ack_verdict c n full rtt s ≡ accepted → Ackable n full rtt s
  unfolding ack_verdict
  ack-taken n full rtt s e =
      let a = when-accepted _ _ _ e in
      let b = when-accepted _ _ _ a.1 in
      let d = when-accepted _ _ _ b.1 in
      let f = when-accepted (eqb (length s.packets) 0) Empty _ d.1 in
      let g = when-accepted (ltb (sent_of s) (ack_of s n)) (invalid n s) _ f.1 in
      record {
        kept = kept_facts c s (not-false _ a.0);
        number = leb-false _ _ b.0;
        rtt = d.0;
        near = ltb-false _ _ g.0;
        full = g.1;
      }

  pub ack-stale : (n : ℕ) (full : Option ℕ) (rtt : Option Rtt) (s : Sender) (r : Refusal) → number_of r ≡ 11
      → ack_verdict c n full rtt s ≡ Err r → Kept c s × (bad_rtt rtt ≡ false)
  unfolding ack_verdict
  ack-stale n full rtt s r h e =
      let a = when-past (not (kept c s)) BadState _ r (λ q. omega arith) e in
      let b = when-past (leb (2 ^ 31) n) BadNumber _ r (λ q. omega arith) a.1 in
      let d = when-past (bad_rtt rtt) BadRtt _ r (λ q. omega arith) b.1 in
      (kept_facts c s (not-false _ a.0), d.0)

  pub record Runnable (now p most : ℕ) (s : Sender) : Type 0 where
    pub kept : Kept c s
    pub soon : now < 2 ^ 48
    pub room : min p (length s.packets) + 3 ≤ most

  pub run-taken : (now p room : ℕ) (s : Sender) → run_verdict c now p room s ≡ accepted → Runnable now p room s
  unfolding run_verdict
  run-taken now p room s e =
      let a = when-accepted _ _ _ e in
      let b = when-accepted _ _ _ a.1 in
      let d = when-accepted _ _ _ b.1 in
      record { kept = kept_facts c s (not-false _ a.0); soon = leb-false _ _ b.0; room = ltb-false _ _ d.0 }
