-- Moving every time and `now` by the same amount changes nothing in what a run does but the times in its records:
-- lateness and resend times are compared as full times, and both sides of each comparison move. So no rollover of the
-- 32-bit stamp can change a run.
use Rattle.std.specs.Prelude.{Some}
use mathlib.Core.Path.{◌∙◌, ◌≡◌, ap, refl, sym}
use mathlib.Core.Bool.{Bool, ◌&&◌, false, true}
use mathlib.Core.List.{List, [], ◌++◌, ◌∷◌, map}
use Prim.Native.Nat.{◌%◌, ◌+◌, ◌-◌, ◌<◌, ◌^◌, ◌≤◌, max, suc, zero, ℕ}
use native.Mathlib.Omega.{arith}
use lib.Dec.{eqb, ltb}
use lib.ListN.{drop, length, take}
use borrow.Author.Tests.{ltb-true}
use Rattle.laws.specs.Ascending.{Ascends}
use Rattle.laws.specs.Bools.{and_r}
use Rattle.laws.specs.Lists.{map-append, map-drop, map-take}
use Rattle.laws.specs.Choice.{cond-false, cond-true}
use Rattle.rules.specs.Numbers.{wire}
use Rattle.rules.specs.Records.{ByLoss, ByTime, Kind, Send, drop_record, is_send, send_record, sends, wait_ack, wait_input}
use Rattle.rules.specs.Run.{Result, Rule, Turn, dropped, due, earliest, extra, first, flush, flushed, input, join, late, loop, loss, obey, others, rule, run, send, send_next, unsent, window}
use Rattle.rules.specs.Sender.{Packet, Sender, end, from, packet, put, sent_of, wire_sizes}
use Rattle.rules.specs.Settings.{Settings, capacity}
use Rattle.rules_theorems.specs.Laws.BookRules.{Good, Kept}
use Rattle.rules_theorems.specs.Demands.Times.{later, later_action, later_packet}
use Rattle.rules_theorems.specs.Laws.Run.{Applies, split, sweep, turns}
use Rattle.rules_theorems.proofs.Frame.{late-le, rule_applies}
use Rattle.rules_theorems.proofs.None.{due-some}
use Rattle.rules_theorems.proofs.RunKept.{dropped-kept, others-kept}
use Rattle.rules_theorems.proofs.Split.{loop-end, loop-on, run_is}
use Rattle.rules_theorems.proofs.Later.{earliest-later, late-later, map-length, packet-later, record_later, sends-later, sent-later, sizes_later}

module _ (c : Settings) (d now : ℕ) where
  abbrev later_turn : Turn → Turn
  later_turn t = record { records = map (later_action d) t.records; after = later d t.after; ends = t.ends }

  abbrev pub later_result : Result → Result
  later_result r = record { records = map (later_action d) r.records; after = later d r.after; left = r.left }

  module _ (draining : Bool) where
    send-later : (k : Kind) (n m : ℕ) (l : List ℕ) (s : Sender) → is_send k ≡ 1 → n - s.front < length s.packets
        → send c (now + d) draining k n m l (later d s) ≡ later_turn (send c now draining k n m l s)
    unfolding send later
    send-later k n m l s e h = λ i. record {
      records = (ap (send_record k n) (packet-later c d now s n h) ∙ record_later c d now k n (packet s n) e) i ∷ [];
      after = put s (sent-later c d now s n h i) s.front m l s.bytes;
      ends = false;
    }

    end_later : (s : Sender) → end (later d s) ≡ end s
    unfolding later
    end_later s = ap (λ (n : ℕ). s.front + n) (map-length (later_packet d) s.packets)

    -- the second half of rule 5, if the first half moved in the same way
    extra-later : (t u : Turn) → u ≡ later_turn t → t.after.front ≤ t.after.next
        → extra c (now + d) draining u ≡ later_turn (extra c now draining t)
    unfolding extra later
    extra-later t u e low = ap (extra c (now + d) draining) e ∙ go (eqb (wire s.next % 16) 0 && ltb s.next (end s)) refl
      where
        s : Sender
        s = t.after

        test : (eqb (wire (later d s).next % 16) 0 && ltb (later d s).next (end (later d s)))
            ≡ (eqb (wire s.next % 16) 0 && ltb s.next (end s))
        test = ap (λ (n : ℕ). eqb (wire s.next % 16) 0 && ltb s.next n) (end_later s)

        go : (b : Bool) → (eqb (wire s.next % 16) 0 && ltb s.next (end s)) ≡ b
            → extra c (now + d) draining (later_turn t) ≡ later_turn (extra c now draining t)
        go true q =
            let in_buffer : s.next < end s = ltb-true _ _ (and_r (eqb (wire s.next % 16) 0) (ltb s.next (end s)) q) in
            let v = send-later Send s.next (suc s.next) s.lost s refl (omega arith) in
            cond-true _ (later_turn t) (test ∙ q)
            ∙ ((λ i. record {
              records = map (later_action d) t.records ++ (v i).records;
              after = (v i).after;
              ends = false;
            })
            ∙ ((λ i. record {
              records = sym (map-append (later_action d) t.records (send_next c now draining s).records) i;
              after = later d
                  (send_next c now draining s).after;
              ends = false;
            })
            ∙ ap later_turn (sym (cond-true _ t q))))
        go false q = cond-false _ (later_turn t) (test ∙ q) ∙ ap later_turn (sym (cond-false _ t q))

    len-later : (s : Sender) → length s.packets ≡ 1 → (packet (later d s) s.front).len ≡ (packet s s.front).len
    unfolding later_packet
    len-later s single = ap (λ (p : Packet). p.len) (packet-later c d now s s.front (omega arith))

    window_later : (s : Sender) → obey c (now + d) draining window (later d s) ≡ later_turn (obey c now draining window s)
    unfolding obey later later_action wait_ack
    window_later s = refl

    input-later : (s : Sender) → obey c (now + d) draining input (later d s) ≡ later_turn (obey c now draining input s)
    unfolding obey later later_action wait_input
    input-later s = refl

    send-low : (s : Sender) → Good s → (send c now draining Send s.next (suc s.next) s.lost s).after.front ≤ suc s.next
    unfolding send
    send-low s g = omega (arith, g.low)

    flushed-later : (s : Sender) → length s.packets ≡ 1 → flushed c (now + d) draining (later d s) ≡ later d (flushed c now draining s)
    unfolding flushed later
    flushed-later s single =
        let f = later_packet d in
        let drops : drop 1 (map (later_packet d) s.packets) ≡ map (later_packet d) (drop 1 s.packets) = map-drop f 1 s.packets in
        let sizes : wire_sizes c (take 1 (map (later_packet d) s.packets)) ≡ wire_sizes c (take 1 s.packets) =
        ap (wire_sizes c) (map-take f 1 s.packets) ∙ sizes_later c d now (take 1 s.packets)
        in
        let count : length (map (later_packet d) s.packets) ≡ length s.packets = map-length f s.packets in
        let len : (packet (later d s) s.front).len ≡ (packet s s.front).len = len-later s single in
        λ i. record {
          packets = drops i;
          front = s.front + 1;
          next = max s.next (s.front + 1);
          lost = from (s.front + 1) s.lost;
          bytes = s.bytes - sizes i;
          rtt = s.rtt;
          messages = s.messages;
          expected = s.expected;
          held = Some (record { number = s.front; slot = (s.pushed - (s.front + count i - s.front)) % capacity c; len = len i });
          pacing = s.pacing;
          pushed = s.pushed;
        }

    obey-later : (r : Rule) (s : Sender) → Good s → Applies c now draining r s
        → obey c (now + d) draining r (later d s) ≡ later_turn (obey c now draining r s)
    unfolding obey send later
    obey-later (loss x xs) s g a =
        let l : Ascends s.front s.next (x ∷ xs) = rw a at g.lost in
        send-later ByLoss x s.next xs s refl (omega (arith, g.high, l.0, l.1))
    obey-later (due n) s g a =
        let x = due-some c now draining s g n a.1 in send-later ByTime n s.next s.lost s refl (omega (arith, g.high, x.0, x.1))
    obey-later window s g a = window_later s
    obey-later unsent s g a =
        extra-later (send c now draining Send s.next (suc s.next) s.lost s)
        (send c (now + d) draining Send s.next (suc s.next) s.lost (later d s))
        (send-later Send s.next (suc s.next) s.lost s refl (omega (arith, g.low))) (send-low s g)
    obey-later flush s g a =
        let p = packet-later c d now s s.front (omega arith) in
        λ i. record {
          records = (ap (send_record Send s.front) p ∙ record_later c d now Send s.front (packet s s.front) refl) i ∷ [];
          after = flushed-later s a.5 i;
          ends = false;
        }
    obey-later input s g a = input-later s

    joined-later : (t : Turn) (r : Result) → join (later_turn t) (later_result r) ≡ later_result (join t r)
    joined-later t r = λ i. record { records = sym (map-append (later_action d) t.records r.records) i; after = later d r.after; left = r.left }

    late_of : (s : Sender) → late c (now + d) (later d s).packets ≡ late c now s.packets
    unfolding later
    late_of s = late-later c d now s.packets

    rule-later : (s : Sender) → Kept c s → rule c (now + d) draining (later d s) ≡ rule c now draining s
    unfolding rule later
    rule-later s g =
        let n : length (map (later_packet d) s.packets) ≡ length s.packets = map-length (later_packet d) s.packets in
        let e : earliest (now + d) s.front (take (sent_of s) (map (later_packet d) s.packets))
        ≡ earliest now s.front (take (sent_of s) s.packets) =
        ap (earliest (now + d) s.front) (map-take (later_packet d) (sent_of s) s.packets)
        ∙ earliest-later c d now now s.front (take (sent_of s) s.packets) g.old
        in
        λ i. first s.lost (e i) (ltb c.flow (sent_of s)) (ltb s.next (s.front + n i)) (draining && eqb (n i) 1)

    others-later : (s : Sender) → Kept c s → others c (now + d) draining (later d s) ≡ later_turn (others c now draining s)
    unfolding others
    others-later s g =
        ap (λ (r : Rule). obey c (now + d) draining r (later d s)) (rule-later s g)
        ∙ obey-later (rule c now draining s) s g.good (rule_applies c now draining s)

    turns-later : now < 2 ^ 48 → (f b : ℕ) (s : Sender) → Kept c s
        → turns c (now + d) draining f b (later d s) ≡ later_result (turns c now draining f b s)
    unfolding loop
    turns-later early zero b s g = refl
    turns-later early (suc f) zero s g = refl
    turns-later early (suc f) (suc b) s g =
        go (others c now draining s).ends refl (others-later s g)
        (turns-later early f (suc b - sends (others c now draining s).records) (others c now draining s).after
        (others-kept c now draining early s g))
      where
        t : Turn
        t = others c now draining s

        go : (e : Bool) → t.ends ≡ e → others c (now + d) draining (later d s) ≡ later_turn t
            → turns c (now + d) draining f (suc b - sends t.records) (later d t.after)
            ≡ later_result (turns c now draining f (suc b - sends t.records) t.after)
            → turns c (now + d) draining (suc f) (suc b) (later d s) ≡ later_result (turns c now draining (suc f) (suc b) s)
        go true e q ih =
            loop-end (others c (now + d) draining) f b (later d s) (ap (λ (u : Turn). u.ends) q ∙ e)
            ∙ (ap (λ (u : Turn). record { records = u.records; after = u.after; left = suc b }) q
            ∙ ap later_result (sym (loop-end (others c now draining) f b s e)))
        go false e q ih =
            loop-on (others c (now + d) draining) f b (later d s) (ap (λ (u : Turn). u.ends) q ∙ e)
            ∙ (ap (λ (u : Turn). join u (turns c (now + d) draining f (suc b - sends u.records) u.after)) q
            ∙ (ap (λ (n : ℕ). join (later_turn t) (turns c (now + d) draining f (suc b - n) (later d t.after))) (sends-later c d now t.records)
            ∙ (ap (join (later_turn t)) ih
            ∙ (joined-later t (turns c now draining f (suc b - sends t.records) t.after)
            ∙ ap later_result (sym (loop-on (others c now draining) f b s e))))))

    dropped-later : (k : ℕ) (s : Sender) → dropped c (now + d) k (later d s) ≡ later_turn (dropped c now k s)
    unfolding dropped later later_action drop_record
    dropped-later zero s = refl
    dropped-later (suc k) s =
        λ i. record {
          records = drop_record s.front (s.front + suc k) ∷ [];
          after =
              put s (map-drop (later_packet d) (suc k) s.packets i) (s.front + suc k) (max s.next (s.front + suc k))
              (from (s.front + suc k) s.lost) s.bytes;
          ends = false;
        }

    split-later : now < 2 ^ 48 → (p : ℕ) (s : Sender) → Kept c s
        → split c (now + d) draining p (later d s) ≡ later_result (split c now draining p s)
    unfolding split sweep
    split-later early zero s g = refl
    split-later early (suc p) s g =
        let k : ℕ = late c now s.packets in
        let w : Turn = dropped c now k s in
        let u : dropped c (now + d) (late c (now + d) (later d s).packets) (later d s) ≡ later_turn w =
        ap (λ (n : ℕ). dropped c (now + d) n (later d s)) (late_of s) ∙ dropped-later k s
        in
        ap (λ (x : Turn). join x (turns c (now + d) draining (suc p) (suc p) x.after)) u
        ∙ (ap (join (later_turn w))
        (turns-later early (suc p) (suc p) w.after (dropped-kept c now draining early k s (late-le c now s.packets) g))
        ∙ joined-later w (turns c now draining (suc p) (suc p) w.after))

  -- "moving every time and now by the same amount changes nothing in what a run does but the times it shows"
  pub run-later : (draining : Bool) → now < 2 ^ 48 → (p : ℕ) (s : Sender) → Kept c s
      → run c (now + d) draining p (later d s) ≡ later_result (run c now draining p s)
  run-later draining early p s g =
      run_is c (now + d) draining p (later d s) ∙ (split-later draining early p s g ∙ ap later_result (sym (run_is c now draining p s)))
