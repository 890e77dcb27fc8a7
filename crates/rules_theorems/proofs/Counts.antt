-- The counts in the answers are true: an ACK's `received` is how far the front moved, `recovered` is how much shorter
-- the loss list is, and a message's removed packets and wire bytes are those that left. A refusal changes nothing,
-- except that 11 keeps a new RTT.
use mathlib.Core.Path.{◌∙◌, ◌≡◌, ap, refl, subst, sym}
use mathlib.Core.Bool.{Bool, false, true}
use mathlib.Core.List.{List, [], ◌++◌, ◌∷◌, append_assoc, append-nil}
use Prim.Native.Nat.{◌*◌, ◌+◌, ◌<◌, ◌^◌, ◌≤◌, suc, ℕ}
use native.Mathlib.Omega.{arith}
use lib.Dec.{leb, ltb}
use lib.ListN.{length, length-append, length-take, take, take-append-drop}
use borrow.Author.Tests.{eq-eqb, leb-false, leb-true, ne_eqb}
use Rattle.rules_refusals.specs.declared.Refusal.{Refusal}
use Rattle.rules_refusals.specs.Table.{number_of}
use Rattle.laws.specs.Choice.{cond-by, cond-false, cond-true}
use Rattle.rules_packets.specs.Split.{count}
use Rattle.rules_numbers.specs.declared.Rtt.{Rtt}
use Rattle.rules.specs.Ack.{ack_of, acknowledge, received, recovered, take_rtt}
use Rattle.rules.specs.BookRules.{all}
use Rattle.rules.specs.Calls.{Acked, Answer, Call, Nothing, Pushed, ack, after, answer, answer_by, left, message, pushed_by, said_by, store_after, store_by, verdict_of, with_rtt}
use Rattle.rules.specs.Losses.{before}
use Rattle.rules.specs.Message.{append, begin, gone, gone_by, make_room, packets_of, period_of, push, push_all}
use Rattle.rules.specs.Numbers.{wire}
use Rattle.rules.specs.Refusals.{count_is_full}
use Rattle.rules.specs.Sender.{Packet, Sender, below, from, wire_sizes}
use Rattle.rules.specs.Settings.{Settings, capacity}
use Rattle.rules_theorems.specs.Laws.BookRules.{All, Kept, Unsent}
use Rattle.rules_theorems.specs.Laws.Calls.{answer-taken, answer-verdict}
use Rattle.rules_theorems.specs.Laws.Numbers.{wire-distance}
use Rattle.rules_theorems.specs.Laws.Run.{two}
use Rattle.rules_theorems.proofs.CallsKept.{size-least}
use Rattle.rules_theorems.proofs.MessageKept.{append-kept, begin-kept, packets-unsent, room_fits, room-kept, sizes_message}
use Rattle.rules_theorems.proofs.Packets.{sizes_append, sizes_drop}
use Rattle.rules_theorems.proofs.Verdicts.{ack-taken, message-taken, or-false}
use Rattle.rules_pacing.specs.Pacing as PacingIn
use Rattle.std.specs.Prelude.{Ok, Err, Option}
use Rattle.rules_refusals.specs.Verdict.{Verdict, accepted}

below_length : (n : ℕ) (xs : List ℕ) → below n xs + length (from n xs) ≡ length xs
unfolding below from
below_length n [] = refl
below_length n (x ∷ xs) = go (ltb x n) refl (below_length n xs)
  where
    go : (b : Bool) → ltb x n ≡ b → below n xs + length (from n xs) ≡ length xs
        → below n (x ∷ xs) + length (from n (x ∷ xs)) ≡ suc (length xs)
    go true e ih = rw (e, below, from) (omega arith)
    go false e ih = rw (e, below, from) (omega arith)

module _ (c : Settings) where
  -- "Loss entries below the ACK go (`recovered`), then packets below it (`received`)."
  pub record Acknowledged (n : ℕ) (full : Option ℕ) (s : Sender) (a : Answer) : Type 0 where
    pub received : ℕ
    pub recovered : ℕ
    pub said : a.said ≡ Acked received recovered full
    pub packets : s.packets ≡ take received s.packets ++ a.after.packets
    pub front : a.after.front ≡ s.front + received
    pub reaches : wire a.after.front ≡ n
    pub lost : recovered + length a.after.lost ≡ length s.lost
    pub bytes : a.after.bytes + wire_sizes c (take received s.packets) ≡ s.bytes

  pub ack-counts : (n : ℕ) (full : Option ℕ) (rtt : Option Rtt) (s : Sender) → (answer c (ack n full rtt) s).verdict ≡ accepted
      → Acknowledged n full s (answer c (ack n full rtt) s)
  unfolding verdict_of after said_by acknowledge take_rtt
  ack-counts n full rtt s h =
      let t = ack-taken c n full rtt s (sym (answer-verdict c (ack n full rtt) s) ∙ h) in
      let d : ℕ = ack_of s n in
      let few : d ≤ length s.packets = omega (arith, t.kept.good.high, t.near) in
      let all : length (take (ack_of s n) s.packets) ≡ ack_of s n = simp length-take (omega arith) in
      subst (λ (a : Answer). Acknowledged n full s a) (sym (answer-taken c (ack n full rtt) s h))
      (record {
        received = length (take d s.packets);
        recovered = below (s.front + d) s.lost;
        said = refl;
        packets = rw all (sym (take-append-drop d s.packets));
        front = rw all;
        reaches = wire-distance s.front n t.number;
        lost = below_length (s.front + d) s.lost;
        bytes = rw all (omega (arith, sizes_drop c d s.packets, t.kept.covers));
      })

  gone-length : (s : Sender) → Kept c s → (make_room c s).front ≡ s.front + length (gone c s)
  unfolding make_room gone
  gone-length s g = go (leb (capacity c) (length s.packets)) refl
    where
      go : (b : Bool) → leb (capacity c) (length s.packets) ≡ b → (make_room c s).front ≡ s.front + length (gone c s)
      go true e = rw (e, make_room, gone) (simp length-take (omega (arith, leb-true)))
      go false e = rw (e, make_room, gone) (omega arith)

  gone-bytes : (s : Sender) → Kept c s → (make_room c s).bytes + wire_sizes c (gone c s) ≡ s.bytes
  unfolding make_room gone wire_sizes
  gone-bytes s g = go (leb (capacity c) (length s.packets)) refl
    where
      go : (b : Bool) → leb (capacity c) (length s.packets) ≡ b → (make_room c s).bytes + wire_sizes c (gone c s) ≡ s.bytes
      go true e = rw (e, make_room, gone) (omega (arith, sizes_drop c 1 s.packets, g.covers))
      go false e = rw (e, make_room, gone) (omega arith)

  -- the packets removed were in front, those pushed are behind
  room-packets : (s : Sender) → gone c s ++ (make_room c s).packets ≡ s.packets
  unfolding make_room gone
  room-packets s = go (leb (capacity c) (length s.packets)) refl
    where
      go : (b : Bool) → leb (capacity c) (length s.packets) ≡ b → gone c s ++ (make_room c s).packets ≡ s.packets
      go true e = rw (e, make_room, gone) (take-append-drop 1 s.packets)
      go false e = rw (e, make_room, gone)

  pub record Queued (s t : Sender) (ps removed : List Packet) : Type 0 where
    pub packets : removed ++ t.packets ≡ s.packets ++ ps
    pub front : t.front ≡ s.front + length removed
    pub bytes : t.bytes + wire_sizes c removed ≡ s.bytes + wire_sizes c ps
    pub pushed : t.pushed ≡ s.pushed + length ps

  room-pushed : (s : Sender) → (make_room c s).pushed ≡ s.pushed
  unfolding make_room
  room-pushed s = cond-by (λ (t : Sender). t.pushed ≡ s.pushed) (leb (capacity c) (length s.packets)) _ s (λ e. refl) (λ e. refl)

  push_all-queued : (ps : List Packet) (s : Sender) → All (Unsent c) ps → s.bytes + wire_sizes c ps < 2 ^ 62 → Kept c s
      → Queued s (push_all c ps s) ps (gone_by c ps s)
  unfolding push_all gone_by wire_sizes append
  push_all-queued [] s f b g = record { packets = sym (append-nil s.packets); front = omega arith; bytes = refl; pushed = omega arith }
  push_all-queued (p ∷ ps) s f b g =
      let r = room-kept c s g in
      let u : Sender = append c p (make_room c s) in
      let k = append-kept c p (make_room c s) f.0 (room_fits c s g) (omega (arith, r.1)) r.0 in
      let q = push_all-queued ps u f.1 (omega (arith, r.1)) k in
      record {
        packets = append_assoc (gone c s) (gone_by c ps u) (push_all c ps u).packets ∙ (ap (λ (l : List Packet). gone c s ++ l) q.packets
            ∙ (ap (λ (l : List Packet). gone c s ++ l) (append_assoc (make_room c s).packets (p ∷ []) ps)
            ∙ (sym (append_assoc (gone c s) (make_room c s).packets (p ∷ ps)) ∙ ap (λ (l : List Packet). l ++ (p ∷ ps)) (room-packets s))));
        front = rw length-append (omega (arith, q.front, gone-length s g));
        bytes = rw (sizes_append c) (omega (arith, q.bytes, gone-bytes s g));
        pushed = omega (arith, q.pushed, room-pushed s);
      }

  -- "Answer: packets made, packets removed, wire bytes removed (payload plus overhead), and any new period."
  pub record Taken (time now n : ℕ) (s : Sender) (a : Answer) : Type 0 where
    pub removed : List Packet
    pub said : a.said
        ≡ Pushed (count c.size n) (length removed) (wire_sizes c removed)
        (period_of (PacingIn.input s.pacing now (count c.size n) n))
    pub queued : Queued s a.after (packets_of c time s.messages n) removed

  pub message-counts : (time now : ℕ) (bytes : List ℕ) (s : Sender) → (answer c (message time now bytes) s).verdict ≡ accepted
      → Taken time now (length bytes) s (answer c (message time now bytes) s)
  unfolding verdict_of after said_by pushed_by push begin count_is_full
  message-counts time now bytes s h =
      let n : ℕ = length bytes in
      let t = message-taken c time now n s (sym (answer-verdict c (message time now bytes) s) ∙ h) in
      let pos = size-least c t.kept.fields.settings in
      let two = or-false (leb (2 ^ 62) (s.bytes + n + count c.size n * c.overhead)) _ t.full in
      let small : s.bytes + n + count c.size n * c.overhead < 2 ^ 62 = leb-false _ _ two.0 in
      let q = push_all-queued (packets_of c time s.messages n) (begin c now n s)
      (packets-unsent c time s.messages n t.early t.kept.fields.messages 0 (count c.size n))
      (omega (arith, sizes_message c time s.messages n pos)) (begin-kept c now n s t.soon two.1 t.kept)
      in
      subst (λ (a : Answer). Taken time now (length bytes) s a) (sym (answer-taken c (message time now bytes) s h))
      (record {
        removed = gone_by c (packets_of c time s.messages n) (begin c now n s);
        said = refl;
        queued = record { packets = q.packets; front = q.front; bytes = q.bytes; pushed = q.pushed };
      })

  -- a refusal answers nothing, writes no byte of the store, and leaves the sender unchanged; 11 keeps the ACK's RTT
  pub record Refusing (k : Call) (s : Sender) (before : List ℕ) (r : Refusal) : Type 0 where
    pub said : (answer c k s).said ≡ Nothing
    pub store : store_after c k s before ≡ before
    pub same : ¬ (number_of r ≡ 11) → (answer c k s).after ≡ s
    pub stale : number_of r ≡ 11 → (answer c k s).after ≡ with_rtt k s

  pub refused-nothing : (k : Call) (s : Sender) (store : List ℕ) (r : Refusal) → (answer c k s).verdict ≡ Err r → Refusing k s store r
  unfolding answer answer_by store_after store_by left
  refused-nothing k s store r h =
      let v : verdict_of c k s ≡ Err r = sym (answer-verdict c k s) ∙ h in
      record {
        said = ap (λ (w : Verdict). (answer_by c w k s).said) v;
        store = ap (λ (w : Verdict). store_by c w k s store) v;
        same = λ n. ap (λ (w : Verdict). (answer_by c w k s).after) v ∙ cond-false (with_rtt k s) s (ne_eqb (number_of r) 11 n);
        stale = λ e. ap (λ (w : Verdict). (answer_by c w k s).after) v ∙ cond-true (with_rtt k s) s (eq-eqb (number_of r) 11 e);
      }
