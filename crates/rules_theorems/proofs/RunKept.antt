-- Every turn of a run, and so a run, keeps the book rules: removal from the front, a resend, a first sending, the
-- flush. `same_kept` is for every call that doesn't change the packets and their numbers.
use mathlib.Core.Path.{◌≡◌, refl}
use mathlib.Core.Bool.{Bool, ◌&&◌, false, true}
use mathlib.Core.List.{List, [], ◌∷◌}
use Prim.Native.Nat.{◌%◌, ◌+◌, ◌-◌, ◌<◌, ◌^◌, ◌≤◌, max, suc, zero, ℕ}
use native.Mathlib.Omega.{arith}
use native.Mathlib.Nat.{mod-lt}
use lib.Dec.{eqb, ltb}
use lib.ListN.{drop, length, length-drop, length-take, take}
use lib.Seq.{drop-cons, drop-set-lt, get_or-take, take-set-lt, take-suc-set}
use borrow.Author.Tests.{ltb-true}
use Rattle.laws.specs.Ascending.{Ascends, widen}
use Rattle.laws.specs.Bools.{and_r}
use Rattle.rules.specs.Numbers.{wire}
use Rattle.rules.specs.Records.{ByLoss, ByTime, Kind, Send, sends}
use Rattle.rules.specs.Run.{Rule, Turn, base, dropped, due, extra, flush, flushed, input, late, loop, loss, obey, others, rule, run, send, sent, stamped, unsent, wait, window}
use Rattle.rules.specs.Sender.{Packet, Sender, end, nothing, packet, remove, sent_of, wire_sizes}
use Rattle.rules.specs.Settings.{Settings}
use Rattle.rules_theorems.specs.Laws.BookRules.{Fields, Kept, Sent, Unsent}
use Rattle.rules_theorems.specs.Laws.Run.{Applies, split, sweep, turns, wait-small}
use Rattle.rules_theorems.proofs.Frame.{late-le, remove-good, rule_applies, send-good, sent-length}
use Rattle.rules_theorems.proofs.None.{due-some}
use Rattle.rules_theorems.proofs.Packets.{all-at, all_drop, all_set, all_snoc, drop_past, sizes_drop, sizes_set, take-drop}
use Rattle.rules_theorems.proofs.Split.{loop-end, loop-on, run_is}

module _ (c : Settings) where
  -- the same packets and numbers, another loss list in order, other fields in range
  pub same_kept : (s t : Sender) → t.packets ≡ s.packets → t.front ≡ s.front → t.next ≡ s.next → t.bytes ≡ s.bytes
      → Ascends s.front s.next t.lost → Fields c t.rtt t.messages t.expected t.held t.pacing → Kept c s → Kept c t
  same_kept s t p f n b a o g = record {
    good = record { low = rw (f, n) g.good.low; high = rw (f, n, p) g.good.high; lost = rw (f, n) a };
    fits = rw p g.fits;
    old = rw (p, f, n) g.old;
    new = rw (p, f, n) g.new;
    small = rw b g.small;
    covers = rw (p, b) g.covers;
    fields = o;
  }

  pub remove-kept : (k b : ℕ) (s : Sender) → k ≤ length s.packets → wire_sizes c (drop k s.packets) ≤ b → b ≤ s.bytes → Kept c s
      → Kept c (remove k b s)
  remove-kept k b s h l u g =
      let d : max s.next (s.front + k) - (s.front + k) ≡ sent_of s - k = omega arith in
      record {
        good = remove-good k b s h g.good;
        fits = simp length-drop (omega arith);
        old = rw (d, take-drop) (all_drop (Sent c) k _ g.old);
        new = rw (d, drop_past) (all_drop (Unsent c) (k - (sent_of s)) _ g.new);
        covers = l;
        small = omega arith;
        fields = g.fields;
      }

  pub stamped-sent : (now : ℕ) (s : Sender) (p : Packet) → now < 2 ^ 48 → p.time < 2 ^ 48 → p.message < 2 ^ 26 → p.len ≤ c.size
      → Sent c (stamped now s p)
  unfolding stamped
  stamped-sent now s p h t m l =
      record { time = t; message = m; len = l; once = omega arith; most = omega arith; resend = omega (arith, wait-small (base s) p.count) }

  pub old-at : (s : Sender) (n : ℕ) → Kept c s → s.front ≤ n → n < s.next → n - s.front < sent_of s
      → n - s.front < length (take (sent_of s) s.packets) → Sent c (packet s n)
  unfolding packet
  old-at s n g lo hi h k = rw get_or-take at (all-at (Sent c) (take (sent_of s) s.packets) (n - s.front) k g.old)

  -- the first of the unsent
  pub new-at : (s : Sender) → Kept c s → s.next < end s → sent_of s < length s.packets → Unsent c (packet s s.next)
  unfolding packet
  new-at s g hi h = (rw (drop-cons s.packets (sent_of s) nothing) at g.new).0

  pub sizes_sent : (now : ℕ) (s : Sender) (n : ℕ) → wire_sizes c (sent now s n) ≡ wire_sizes c s.packets
  unfolding sent stamped packet
  sizes_sent now s n = sizes_set c s.packets (n - s.front) (stamped now s (packet s n)) refl

  -- k packets go, and their bytes too
  pub gone-kept : (k : ℕ) (s : Sender) → k ≤ length s.packets → Kept c s
      → Kept c (remove k (s.bytes - wire_sizes c (take k s.packets)) s)
  gone-kept k s h g =
      remove-kept k (s.bytes - wire_sizes c (take k s.packets)) s h (omega (arith, sizes_drop c k s.packets, g.covers))
      (omega arith) g

  module _ (now : ℕ) (draining : Bool) (early : now < 2 ^ 48) where
    -- a resend: number n is sent already
    pub again_kept : (k : Kind) (n : ℕ) (l : List ℕ) (s : Sender) → s.front ≤ n → n < s.next → Ascends s.front s.next l → Kept c s
        → Kept c (send c now draining k n s.next l s).after
    unfolding send sent
    again_kept k n l s lo hi a g = record {
      good = send-good c now draining k n s.next l s g.good.low g.good.high a;
      fits = rw (sent-length c now s n) g.fits;
      old =
          rw (take-set-lt, h) (all_set (Sent c) (take (sent_of s) s.packets) (n - s.front) (stamped now s (packet s n)) g.old
          (stamped-sent now s (packet s n) early q.time q.message q.len));
      new = rw (drop-set-lt, h) g.new;
      covers = rw (sizes_sent now s n) g.covers;
      small = g.small;
      fields = g.fields;
    }
      where
        h : n - s.front < sent_of s
        h = omega arith

        q : Sent c (packet s n)
        q = old-at s n g lo hi h (simp length-take (omega (arith, g.good.high)))

    -- a first sending: the next unsent
    pub first-kept : (s : Sender) → s.next < end s → Kept c s
        → Kept c (send c now draining Send s.next (suc s.next) s.lost s).after
    unfolding send sent
    first-kept s hi g = record {
      good =
          send-good c now draining Send s.next (suc s.next) s.lost s (omega (arith, g.good.low)) hi
          (widen s.lost (omega arith) (omega arith) g.good.lost);
      fits = rw (sent-length c now s s.next) g.fits;
      old =
          rw (d, take-suc-set, h)
          (all_snoc (Sent c) (take (sent_of s) s.packets) (stamped now s (packet s s.next) ∷ []) g.old
          (stamped-sent now s (packet s s.next) early q.time q.message q.len, tt));
      new = rw (d, drop-set-lt, k) (rw (drop-cons s.packets (sent_of s) nothing h) at g.new).1;
      covers = rw (sizes_sent now s s.next) g.covers;
      small = g.small;
      fields = g.fields;
    }
      where
        h : sent_of s < length s.packets
        h = omega (arith, g.good.low)

        d : suc s.next - s.front ≡ suc (sent_of s)
        d = omega (arith, g.good.low)

        k : sent_of s < suc (sent_of s)
        k = omega arith

        q : Unsent c (packet s s.next)
        q = new-at s g hi h

    extra-kept : (t : Turn) → Kept c t.after → Kept c (extra c now draining t).after
    unfolding extra
    extra-kept t g = go (eqb (wire t.after.next % 16) 0 && ltb t.after.next (end t.after)) refl
      where
        go : (b : Bool) → (eqb (wire t.after.next % 16) 0 && ltb t.after.next (end t.after)) ≡ b
            → Kept c (extra c now draining t).after
        go true e =
            rw (e, extra) (first-kept t.after
            (ltb-true _ _ (and_r (eqb (wire t.after.next % 16) 0) (ltb t.after.next (end t.after)) e)) g)
        go false e = rw (e, extra) g

    pub obey-kept : (r : Rule) (s : Sender) → Applies c now draining r s → Kept c s → Kept c (obey c now draining r s).after
    unfolding obey flushed
    obey-kept (loss x xs) s a g =
        let l : Ascends s.front s.next (x ∷ xs) = rw a at g.good.lost in
        again_kept ByLoss x xs s l.0 l.1 (widen xs (omega arith) (omega arith) l.2) g
    obey-kept (due n) s a g =
        let d = due-some c now draining s g.good n a.1 in again_kept ByTime n s.lost s d.0 d.1 g.good.lost g
    obey-kept window s a g = g
    obey-kept unsent s a g = extra-kept (send c now draining Send s.next (suc s.next) s.lost s) (first-kept s a.3 g)
    obey-kept flush s a g =
        let r = gone-kept 1 s (omega arith) g in
        let q = old-at s s.front g (omega arith) (omega arith) (omega arith) (simp length-take (omega arith)) in
        same_kept (remove 1 (s.bytes - wire_sizes c (take 1 s.packets)) s) (flushed c now draining s) refl refl refl refl r.good.lost
        (record {
          settings = g.fields.settings;
          rtt = g.fields.rtt;
          messages = g.fields.messages;
          least = g.fields.least;
          most = g.fields.most;
          held = (mod-lt _ (omega arith), q.len);
          pacing = g.fields.pacing;
        }) r
    obey-kept input s a g = g

    pub others-kept : (s : Sender) → Kept c s → Kept c (others c now draining s).after
    unfolding others
    others-kept s g = obey-kept (rule c now draining s) s (rule_applies c now draining s) g

    pub turns-kept : (f b : ℕ) (s : Sender) → Kept c s → Kept c (turns c now draining f b s).after
    unfolding loop others
    turns-kept zero b s g = g
    turns-kept (suc f) zero s g = g
    turns-kept (suc f) (suc b) s g =
        go (others c now draining s).ends refl
        (turns-kept f _ (others c now draining s).after (obey-kept (rule c now draining s) s (rule_applies c now draining s) g))
      where
        go : (e : Bool) → (others c now draining s).ends ≡ e
            → Kept c (turns c now draining f (suc b - sends (others c now draining s).records) (others c now draining s).after).after
            → Kept c (turns c now draining (suc f) (suc b) s).after
        go true e ih = rw (loop-end (others c now draining) f b s e) (obey-kept (rule c now draining s) s (rule_applies c now draining s) g)
        go false e ih = rw (loop-on (others c now draining) f b s e) ih

    pub dropped-kept : (k : ℕ) (s : Sender) → k ≤ length s.packets → Kept c s → Kept c (dropped c now k s).after
    unfolding dropped
    dropped-kept zero s h g = g
    dropped-kept (suc k) s h g =
        remove-kept (suc k) s.bytes s h (omega (arith, sizes_drop c (suc k) s.packets, g.covers)) (omega arith) g

    split-kept : (p : ℕ) (s : Sender) → Kept c s → Kept c (split c now draining p s).after
    unfolding split sweep
    split-kept zero s g = g
    split-kept (suc p) s g =
        turns-kept (suc p) (suc p) (sweep c now s).after (dropped-kept (late c now s.packets) s (late-le c now s.packets) g)

    pub run-kept : (p : ℕ) (s : Sender) → Kept c s → Kept c (run c now draining p s).after
    run-kept p s g = rw run_is (split-kept p s g)
