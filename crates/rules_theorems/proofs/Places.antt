-- Where a payload lies. Only a message gives the next packet a number and counts a push, so the k-th packet ever pushed
-- has the number first + k; a buffered packet is requested by its number, and lies at (k mod capacity) × packet size.
use mathlib.Core.Path.{◌∙◌, ◌≡◌, ap, refl, subst, sym}
use mathlib.Core.Bool.{Bool, ◌&&◌, false, true}
use mathlib.Core.List.{List, [], ◌∷◌}
use Prim.Native.Nat.{◌%◌, ◌+◌, ◌-◌, ◌<◌, ◌^◌, ◌≤◌, suc, zero, ℕ}
use native.Mathlib.Omega.{arith}
use lib.Dec.{eqb, leb, ltb}
use lib.ListN.{get_or, length, length-append, length-drop}
use lib.Seq.{get_or-drop, get_or-set_other, get_or-set_same}
use borrow.Author.Tests.{eqb-false, eqb-true, leb-true, lt-ltb, ltb-true}
use Rattle.laws.specs.Ascending.{Ascends}
use Rattle.laws.specs.Bools.{and_l, and_r}
use Rattle.rules_refusals.specs.declared.Refusal.{Refusal}
use Rattle.rules_refusals.specs.Verdict.{accepted}
use Rattle.rules_refusals.specs.Table.{number_of}
use Rattle.laws.specs.Choice.{cond-by, cond-true}
use Rattle.rules_numbers.specs.declared.Rtt.{Rtt}
use Rattle.rules_pacing.specs.declared.LiveBandwidthMode.{LiveBandwidthMode}
use Rattle.rules.specs.Ack.{ack_of, acknowledge, take_rtt}
use Rattle.rules.specs.Calls.{Answer, Call, ack, after, answer, calls, left, message, nak, payload, runs, verdict_of, with_rtt}
use Rattle.rules.specs.Losses.{Item, report, words_of, items_of}
use Rattle.rules.specs.Numbers.{distance, wire}
use Rattle.rules.specs.Records.{ByLoss, ByTime, Kind, Send, sends}
use Rattle.rules.specs.Reports.{held_of, payload_of}
use Rattle.rules.specs.Run.{Rule, Turn, dropped, due, extra, flush, flushed, input, late, loop, loss, obey, others, rule, run, send, send_next, sent, stamped, unsent, window}
use Rattle.rules.specs.Sender.{Packet, Sender, end, fresh, nothing, packet, push_of, remove}
use Rattle.rules.specs.Settings.{Settings, in_range, place_of}
use Rattle.rules_theorems.specs.Laws.BookRules.{Good, Kept}
use Rattle.rules_theorems.specs.Laws.Calls.{answer-by, answer-taken, answer-verdict}
use Rattle.rules_theorems.specs.Laws.Numbers.{distance-wire}
use Rattle.rules_theorems.specs.Laws.Run.{Applies, split, sweep, turns}
use Rattle.rules_theorems.proofs.Counts.{message-counts}
use Rattle.rules_theorems.proofs.Frame.{dropped-good, late-le, obey-good, rule_applies, sent-length}
use Rattle.rules_theorems.proofs.None.{due-some}
use Rattle.rules_theorems.proofs.Split.{loop-end, loop-on, run_is}
use Rattle.rules_theorems.proofs.Verdicts.{ack-taken, run-taken}
use Rattle.std.specs.Prelude.{Ok, Option, Some}

-- one past the back, the pushes and the lengths of the packets that stay don't change
pub record Steady (s t : Sender) : Type 0 where
  pub ends : end t ≡ end s
  pub pushed : t.pushed ≡ s.pushed
  pub up : s.front ≤ t.front
  pub lens : (n : ℕ) → t.front ≤ n → n < end t → (packet t n).len ≡ (packet s n).len

pub same_steady : (s t : Sender) → t.packets ≡ s.packets → t.front ≡ s.front → t.pushed ≡ s.pushed → Steady s t
unfolding packet
same_steady s t p f u = record {
  ends = rw (p, f);
  pushed = u;
  up = omega arith;
  lens = λ n lo hi. rw (p, f);
}

then_steady : {s t u : Sender} → Steady s t → Steady t u → Steady s u
then_steady a b = record {
  ends = b.ends ∙ a.ends;
  pushed = b.pushed ∙ a.pushed;
  up = omega (arith, a.up, b.up);
  lens = λ n lo hi. b.lens n lo hi ∙ a.lens n (omega (arith, b.up)) (omega (arith, b.ends));
}

remove_steady : (k b : ℕ) (s : Sender) → k ≤ length s.packets → Steady s (remove k b s)
unfolding packet
remove_steady k b s h = record {
  ends = simp length-drop (omega arith);
  pushed = refl;
  up = omega arith;
  lens = λ n lo hi.
      let e : k + (n - (s.front + k)) ≡ n - s.front = omega arith in
      ap (λ (p : Packet). p.len) (get_or-drop k s.packets (n - (s.front + k)) nothing ∙ ap (λ (i : ℕ). get_or s.packets i nothing) e);
}

module _ (c : Settings) (now : ℕ) (draining : Bool) where
  sent-len : (s : Sender) (n j : ℕ) → n - s.front < length s.packets → (get_or (sent now s n) (j - s.front) nothing).len ≡ (packet s j).len
  unfolding sent stamped packet
  sent-len s n j h = go (eqb (j - s.front) (n - s.front)) refl
    where
      go : (b : Bool) → eqb (j - s.front) (n - s.front) ≡ b
          → (get_or (sent now s n) (j - s.front) nothing).len ≡ (get_or s.packets (j - s.front) nothing).len
      go true e =
          let d : j - s.front ≡ n - s.front = eqb-true _ _ e in
          rw d (ap (λ (p : Packet). p.len) (get_or-set_same s.packets (n - s.front) (stamped now s (packet s n)) nothing h))
      go false e =
          ap (λ (p : Packet). p.len)
          (get_or-set_other s.packets (n - s.front) (j - s.front) (stamped now s (packet s n)) nothing (eqb-false _ _ e))

  send_steady : (k : Kind) (n m : ℕ) (l : List ℕ) (s : Sender) → n - s.front < length s.packets
      → Steady s (send c now draining k n m l s).after
  unfolding send packet
  send_steady k n m l s h =
      record { ends = rw (sent-length c now s n); pushed = refl; up = omega arith; lens = λ j lo hi. sent-len s n j h }

  extra_steady : (s : Sender) (t : Turn) → t.after.front ≤ t.after.next → Steady s t.after → Steady s (extra c now draining t).after
  unfolding extra
  extra_steady s t low h =
      let u = t.after in
      cond-by (λ (x : Turn). Steady s x.after) (eqb (wire u.next % 16) 0 && ltb u.next (end u)) _ t
      (λ e.
      let in_buffer : u.next < end u = ltb-true _ _ (and_r (eqb (wire u.next % 16) 0) (ltb u.next (end u)) e) in
      then_steady h (send_steady Send u.next (suc u.next) u.lost u (omega arith)))
      (λ e. h)

  send_next-low : (s : Sender) → Good s → (send_next c now draining s).after.front ≤ (send_next c now draining s).after.next
  unfolding send
  send_next-low s g = omega (arith, g.low)

  obey_steady : (r : Rule) (s : Sender) → Good s → Applies c now draining r s → Steady s (obey c now draining r s).after
  unfolding obey flushed packet
  obey_steady (loss x xs) s g a =
      let l : Ascends s.front s.next (x ∷ xs) = rw a at g.lost in
      send_steady ByLoss x s.next xs s (omega (arith, g.high, l.0, l.1))
  obey_steady (due n) s g a =
      let d = due-some c now draining s g n a.1 in send_steady ByTime n s.next s.lost s (omega (arith, g.high, d.0, d.1))
  obey_steady window s g a = same_steady s s refl refl refl
  obey_steady unsent s g a =
      extra_steady s (send_next c now draining s) (send_next-low s g)
      (send_steady Send s.next (suc s.next) s.lost s (omega (arith, g.low)))
  obey_steady flush s g a =
      let r = remove_steady 1 0 s (omega arith) in record { ends = r.ends; pushed = refl; up = omega arith; lens = r.lens }
  obey_steady input s g a = same_steady s s refl refl refl

  turns_steady : (f b : ℕ) (s : Sender) → Good s → Steady s (turns c now draining f b s).after
  unfolding loop others
  turns_steady zero b s g = same_steady s s refl refl refl
  turns_steady (suc f) zero s g = same_steady s s refl refl refl
  turns_steady (suc f) (suc b) s g =
      go (others c now draining s).ends refl (obey_steady (rule c now draining s) s g (rule_applies c now draining s))
      (turns_steady f (suc b - sends (others c now draining s).records) (others c now draining s).after
      (obey-good c now draining (rule c now draining s) s (rule_applies c now draining s) g))
    where
      t : Turn
      t = others c now draining s

      go : (e : Bool) → t.ends ≡ e → Steady s t.after
          → Steady t.after (turns c now draining f (suc b - sends t.records) t.after).after
          → Steady s (turns c now draining (suc f) (suc b) s).after
      go true e h ih = rw (loop-end (others c now draining) f b s e) h
      go false e h ih = rw (loop-on (others c now draining) f b s e) (then_steady h ih)

  dropped_steady : (k : ℕ) (s : Sender) → k ≤ length s.packets → Steady s (dropped c now k s).after
  unfolding dropped
  dropped_steady zero s h = same_steady s s refl refl refl
  dropped_steady (suc k) s h = remove_steady (suc k) s.bytes s h

  split_steady : (p : ℕ) (s : Sender) → Good s → Steady s (split c now draining p s).after
  unfolding split sweep
  split_steady zero s g = same_steady s s refl refl refl
  split_steady (suc p) s g =
      let k = late c now s.packets in
      then_steady (dropped_steady k s (late-le c now s.packets))
      (turns_steady (suc p) (suc p) (dropped c now k s).after (dropped-good c now k s (late-le c now s.packets) g))

  pub run_steady : (p : ℕ) (s : Sender) → Good s → Steady s (run c now draining p s).after
  run_steady p s g = rw run_is (split_steady p s g)

module _ (c : Settings) where
  -- the next packet to be pushed, the k-th, gets the number first + k
  abbrev pub Numbered : Sender → Type 0
  Numbered s = end s ≡ c.first + s.pushed

  steady_numbered : (s t : Sender) → Steady s t → Numbered s → Numbered t
  steady_numbered s t h n = h.ends ∙ (n ∙ ap (λ (k : ℕ). c.first + k) (sym h.pushed))

  pub left_steady : (k : Call) (s : Sender) (r : Refusal) → Steady s (left k s r)
  unfolding left with_rtt take_rtt
  left_steady k s r = cond-by (Steady s) (eqb (number_of r) 11) (with_rtt k s) s (λ e. with k) (λ e. same_steady s s refl refl refl)
    where
      with : (k : Call) → Steady s (with_rtt k s)
      with (message time now bytes) = same_steady s _ refl refl refl
      with (ack n full rtt) = same_steady s _ refl refl refl
      with (nak words room) = same_steady s _ refl refl refl
      with (runs now p draining room) = same_steady s _ refl refl refl
      with (payload n) = same_steady s _ refl refl refl

  pub ack_steady : (d : ℕ) (full : Option ℕ) (rtt : Option Rtt) (s : Sender) → d ≤ length s.packets
      → Steady s (acknowledge c d full (take_rtt rtt s))
  unfolding acknowledge take_rtt packet
  ack_steady d full rtt s h = let r = remove_steady d 0 s h in record { ends = r.ends; pushed = refl; up = omega arith; lens = r.lens }

  pub nak_steady : (is : List Item) (s : Sender) → Steady s (report is s)
  unfolding report
  nak_steady is s = same_steady s (report is s) refl refl refl

  message-numbered : (time now : ℕ) (bytes : List ℕ) (s : Sender) → (answer c (message time now bytes) s).verdict ≡ accepted → Numbered s
      → Numbered (answer c (message time now bytes) s).after
  message-numbered time now bytes s h n =
      let t = message-counts c time now bytes s h in
      let q = t.queued in
      let l = simp length-append at (ap length q.packets) in
      omega (arith, q.front, q.pushed, l)

  taken-numbered : (k : Call) (s : Sender) → Numbered s → verdict_of c k s ≡ accepted → Numbered (after c k s)
  unfolding after verdict_of
  taken-numbered (message time now bytes) s n e =
      let v = answer-verdict c (message time now bytes) s ∙ e in
      subst (λ (a : Answer). Numbered a.after) (answer-taken c (message time now bytes) s v) (message-numbered time now bytes s v n)
  taken-numbered (ack m full rtt) s n e =
      let t = ack-taken c m full rtt s e in
      steady_numbered s _ (ack_steady (ack_of s m) full rtt s (omega (arith, t.kept.good.high, t.near))) n
  taken-numbered (nak words room) s n e = steady_numbered s _ (nak_steady (items_of (words_of words)) s) n
  taken-numbered (runs now p draining room) s n e =
      steady_numbered s _ (run_steady c now draining p s (run-taken c now p room s e).kept.good) n
  taken-numbered (payload m) s n e = n

  pub answer-numbered : (k : Call) (s : Sender) → Numbered s → Numbered (answer c k s).after
  answer-numbered k s n =
      answer-by c k s (λ (a : Answer). Numbered a.after) (λ r e. steady_numbered s (left k s r) (left_steady k s r) n)
      (taken-numbered k s n)

  pub calls-numbered : (ks : List Call) (s : Sender) → Numbered s → Numbered (calls c ks s)
  unfolding calls
  calls-numbered [] s n = n
  calls-numbered (k ∷ ks) s n = calls-numbered ks (answer c k s).after (answer-numbered k s n)

  pub fresh-numbered : (mode : LiveBandwidthMode) → Numbered (fresh c mode)
  unfolding fresh
  fresh-numbered mode = omega arith

  buffer-least : in_range c ≡ true → c.buffer ≤ 8_192
  unfolding in_range
  buffer-least e =
      let a = and_r (ltb c.first (2 ^ 31)) _ e in
      let b = and_r (leb 1 c.size) _ a in
      let d = and_r (leb c.size 1_456) _ b in
      leb-true _ _ (and_l (leb c.buffer 8_192) _ d)

  -- at most 8,192 are buffered, so a number on the wire names one of them
  pub buffered_few : (s : Sender) → Kept c s → length s.packets ≤ 8_192
  buffered_few s g = omega (arith, g.fits, buffer-least g.fields.settings)

  -- "the k-th packet ever pushed (from 0) lies at (k mod capacity) × packet size": it has the number first + k, and
  -- while it is buffered a request for its payload answers that place and its length
  pub payload-place : (s : Sender) → Kept c s → Numbered s → (k : ℕ) → s.front ≤ c.first + k → c.first + k < end s
      → payload_of c s (wire (c.first + k)) ≡ Some (record { place = place_of c k; len = (packet s (c.first + k)).len })
  unfolding payload_of
  payload-place s g n k lo hi =
      let few = buffered_few s g in
      let d : distance (wire s.front) (wire (c.first + k))
      ≡ c.first + k - s.front = distance-wire s.front (c.first + k) lo (omega arith) in
      let same : s.front + distance (wire s.front) (wire (c.first + k)) ≡ c.first + k = omega arith in
      let near : distance (wire s.front) (wire (c.first + k)) < length s.packets = omega arith in
      let in_buffer : ltb (distance (wire s.front) (wire (c.first + k))) (length s.packets) ≡ true = lt-ltb _ _ near in
      let at : push_of s (c.first + k) ≡ k = omega arith in
      cond-true _ (held_of c s.held (wire (c.first + k))) in_buffer ∙ rw (same, at)
