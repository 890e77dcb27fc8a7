-- An ACK on the books is the ACK of the rules, for every sender that the books represent.
--   Answers                             an outcome of the call is an answer of the rules
--   refused-keeps                       what a refusal leaves
--   stands-taken, stands-acknowledged   the sender with the RTT taken over, and with the packets gone
--   recovered-is, received_is           both counts
--   ack-is, verdict-is                  how far the ACK reaches, and the verdict of the tests after 3, 7 and 8
--   ack_refines                         the call answers and leaves what the rules say
use Rattle.std.proofs.Math.Path.{◌≡◌, refl, sym, ap}
use Rattle.std.proofs.Common.{◌∙◌, arith, length-take}
use Rattle.std.specs.Prelude.{Bool, cond, ltb, eqb, length, take, Option, Some, None, Result, Ok, Err, ℕ}
use Rattle.std.proofs.Math.Bool.{true, false}
use Prim.Native.Nat.{ℕ, ◌+◌, ◌-◌, ◌^◌, ◌≤◌, ◌<◌, max}
use borrow.Author.Tests.{ltb-false, lt-leb}
use Rattle.rules_numbers.specs.declared.SeqNumber.{SeqNumber}
use Rattle.rules_numbers.specs.Modular.{seqs, plus}
use Rattle.rules_refusals.specs.declared.Refusal.{Refusal}
use Rattle.rules_refusals.specs.declared.Refusal.TheVariants.{Empty, InvalidAck, StaleFullAck}
use Rattle.rules_refusals.specs.Table.{number_of}
use Rattle.rules_refusals.specs.Verdict.{Verdict, accepted, when, answer}
use Rattle.loss_list.specs.LossList.Stands.{wire-plus}
use Rattle.rules.specs.Numbers.{wire}
use Rattle.rules_theorems.specs.Laws.Numbers.{wire-below, distance-is-dist}
use Rattle.rules.specs.Settings.{Settings}
use Rattle.rules.specs.Sender.{Sender, sent_of, wire_sizes}
use Rattle.rules.specs.Ack as rules
use Rattle.rules.specs.Ack.{expect}
use Rattle.rules_theorems.specs.Laws.BookRules.{Kept, facts_kept}
use Rattle.rules.specs.Refusals.{bad_rtt, full_verdict, ack_verdict}
use Rattle.rules.specs.Calls as calls
use Rattle.rules_theorems.proofs.CallsKept.{take_rtt-kept}
use Rattle.buffer.specs.declared.SendBuffer.{SendBuffer}
use Rattle.buffer.specs.State.{State, state, view}
use Rattle.buffer.specs.State.Stands.{Stands}
use Rattle.buffer.specs.State.Facts.{stands_facts}
use Rattle.buffer.specs.State.Reports.{packets-is}
use Rattle.buffer.specs.Removal.{removed, going}
use Rattle.buffer.specs.Removal.Laws.{stands-removed, going-is}
use Rattle.buffer_ack.specs.Ack.{ack_of, judge, judge_on, take_rtt, acknowledged, refused, done, update, verdict_of, books_of, said_of}
use Rattle.rules_numbers.specs.declared.Rtt.{Rtt}
use Rattle.buffer_ack.specs.declared.AckAction.{AckAction}

-- the outcome o of the call on st is the answer a of the rules
pub record Answers (c : Settings) (st : State) (o : Result (SendBuffer × AckAction) (SendBuffer × Refusal)) (a : calls.Answer) : Type 0 where
  pub verdict : verdict_of o ≡ a.verdict
  pub said : said_of o ≡ a.said
  pub stands : Stands c (state (books_of o) st.ring st.lost) a.after

full_verdict-stale : (full : Option ℕ) (e : ℕ) (r : Refusal) → full_verdict full e ≡ Err r → number_of r ≡ 11
unfolding full_verdict
full_verdict-stale None e r h = absurd (let z : ◌≡◌ {A = ℕ} 0 1 = cc in omega arith)
full_verdict-stale (Some n) e r h = go (ltb n e) h
  where
    go : (t : Bool) → when t (StaleFullAck n e) accepted ≡ Err r → number_of r ≡ 11
    go true k = cc
    go false k = absurd (let z : ◌≡◌ {A = ℕ} 0 1 = cc in omega arith)

-- "All stays as before; 11 alone keeps a new RTT."
module _ (c : Settings) (n : SeqNumber) (full : Option ℕ) (rtt : Option Rtt) (st : State) (r : Refusal) where
  abbrev kept : SendBuffer
  kept = cond (eqb (number_of r) 11) (take_rtt rtt st).books st.books

  abbrev by : Bool → Bool → Verdict → Result (SendBuffer × AckAction) (SendBuffer × Refusal)
  by a b v =
      answer (refused st) (when a Empty (when b (InvalidAck n st.books.front (record { 0 = plus seqs st.books.front.0 st.books.sent })) accepted))
      (answer (refused (take_rtt rtt st)) v (done c (ack_of n (take_rtt rtt st)) full (take_rtt rtt st)))

  by-keeps : (a b : Bool) (v : Verdict) → full_verdict full st.books.expected ≡ v → verdict_of (by a b v) ≡ Err r → books_of (by a b v) ≡ kept
  unfolding done
  by-keeps true b v f k = let is : number_of r ≡ 9 = cc in rw is
  by-keeps false true v f k = let is : number_of r ≡ 10 = cc in rw is
  by-keeps false false (Ok _) f k = absurd (let z : ◌≡◌ {A = ℕ} 0 1 = cc in omega arith)
  by-keeps false false (Err q) f k =
      let same : number_of r ≡ number_of q = cc in
      let is : number_of r ≡ 11 = same ∙ full_verdict-stale full st.books.expected q f in
      rw is

  pub refused-keeps : verdict_of (update c n full rtt st) ≡ Err r → books_of (update c n full rtt st) ≡ kept
  unfolding update judge
  refused-keeps e =
      by-keeps (eqb st.books.ring.len 0) (ltb st.books.sent (ack_of n st)) (full_verdict full st.books.expected) refl e

module _ {c : Settings} {st : State} {s : Sender} (S : Stands c st s) where
  pub stands-taken : (rtt : Option Rtt) → Stands c (take_rtt rtt st) (rules.take_rtt rtt s)
  unfolding rules.take_rtt
  stands-taken rtt =
      let o = S.others in
      record {
        placed = S.placed;
        cap = S.cap;
        room = S.room;
        packets = S.packets;
        places = S.places;
        front = S.front;
        next = S.next;
        count = S.count;
        lost = S.lost;
        bytes = S.bytes;
        others = record { rtt = ap (rules.given rtt) o.rtt; message = o.message; expected = o.expected; held = o.held };
        turns = S.turns;
        pushed = S.pushed;
      }

  module _ (K : Kept c s) (d : ℕ) (h : d ≤ st.books.sent) where
    few : d ≤ st.books.ring.len
    few = omega (arith, (stands_facts S K).sent)

    pub recovered-is : going d st ≡ rules.recovered d s
    recovered-is = going-is S d few

    pub received_is : d ≡ rules.received d s
    received_is = sym (length-take d s.packets ∙ omega (arith, packets-is S, few))

    -- next unsent isn't among them
    stays : max s.next (s.front + d) ≡ s.next
    stays = omega (arith, S.next)

    pub stands-acknowledged : (full : Option ℕ) → Stands c (acknowledged c d full st) (rules.acknowledge c d full s)
    unfolding acknowledged rules.acknowledge removed
    stands-acknowledged full =
        let bytes : ℕ = st.books.bytes - wire_sizes c (take d (view st)) in
        let G = stands-removed S d few bytes in
        let o = G.others in
        record {
          placed = G.placed;
          cap = G.cap;
          room = G.room;
          packets = G.packets;
          places = G.places;
          front = G.front;
          next = sym stays ∙ G.next;
          count = G.count;
          lost = G.lost;
          bytes = rw (S.packets, S.bytes);
          others = record { rtt = o.rtt; message = o.message; expected = ap (expect full) o.expected; held = o.held };
          turns = G.turns;
          pushed = G.pushed;
        }

module _ {c : Settings} {st : State} {s : Sender} (S : Stands c st s) (K : Kept c s) (n : SeqNumber) (number : n.0 < 2 ^ 31) where
  pub ack-is : ack_of n st ≡ rules.ack_of s n.0
  ack-is = rw S.front (sym (distance-is-dist (wire s.front) n.0 (wire-below s.front) number))

  abbrev outside : Refusal
  outside = InvalidAck n (record { 0 = wire s.front }) (record { 0 = wire s.next })

  next-is : plus seqs st.books.front.0 st.books.sent ≡ wire s.next
  next-is = rw (S.front, S.next) (wire-plus s.front st.books.sent)

  sent_is : st.books.sent ≡ sent_of s
  sent_is = omega (arith, S.next)

  front-is : st.books.front ≡ record { 0 = wire s.front }
  front-is = ap (λ (m : ℕ). record { 0 = m }) S.front

  judged : judge_on n st ≡ when (eqb (length s.packets) 0) Empty (when (ltb (sent_of s) (rules.ack_of s n.0)) outside accepted)
  unfolding judge
  judged =
      rw (packets-is S, ack-is, next-is, sent_is)
      (ap (λ (f : SeqNumber). when (eqb (length s.packets) 0) Empty (when (ltb (sent_of s) (rules.ack_of s n.0)) (InvalidAck n f (record { 0 = wire s.next })) accepted))
      front-is)

  -- the layer above tests 3, 7 and 8
  pub verdict-is : (full : Option ℕ) (rtt : Option Rtt) → bad_rtt rtt ≡ false
      → ack_verdict c n.0 full rtt s
      ≡ when (eqb (length s.packets) 0) Empty (when (ltb (sent_of s) (rules.ack_of s n.0)) outside (full_verdict full s.expected))
  unfolding ack_verdict
  verdict-is full rtt r = rw (facts_kept c s K, lt-leb (2 ^ 31) n.0 number, r)

  module _ (full : Option ℕ) (rtt : Option Rtt) (ranged : bad_rtt rtt ≡ false) where
    abbrev call : calls.Call
    call = calls.ack n.0 full rtt

    abbrev taken : State
    taken = take_rtt rtt st

    by-full : (v : Verdict) → full_verdict full s.expected ≡ v → ack_of n st ≤ st.books.sent
        → Answers c st (answer (refused taken) v (done c (ack_of n taken) full taken)) (calls.answer_by c v call s)
    unfolding calls.answer_by calls.left calls.with_rtt calls.said_by calls.after done acknowledged removed
    by-full (Ok _) e h =
        let near : rules.ack_of s n.0 ≤ st.books.sent = rw (← ack-is) h in
        record {
          verdict = refl;
          said = rw (← recovered-is S K (rules.ack_of s n.0) near, ← received_is S K (rules.ack_of s n.0) near, ack-is);
          stands = rw ack-is (stands-acknowledged (stands-taken S rtt) (take_rtt-kept c rtt s ranged K) (rules.ack_of s n.0) near full);
        }
    by-full (Err r) e h = record {
      verdict = refl;
      said = refl;
      stands = rw (full_verdict-stale full s.expected r e) (stands-taken S rtt);
    }

    by_tests : (a b : Bool) → ltb (sent_of s) (rules.ack_of s n.0) ≡ b → (v : Verdict) → full_verdict full s.expected ≡ v
        → Answers c st (answer (refused st) (when a Empty (when b outside accepted)) (answer (refused taken) v (done c (ack_of n taken) full taken)))
        (calls.answer_by c (when a Empty (when b outside v)) call s)
    unfolding calls.answer_by calls.left
    by_tests true b e v f = record { verdict = refl; said = refl; stands = S }
    by_tests false true e v f = record { verdict = refl; said = refl; stands = S }
    by_tests false false e v f =
        by-full v f (omega (arith, ltb-false (sent_of s) (rules.ack_of s n.0) e, ack-is, sent_is))

    pub ack_refines : Answers c st (update c n full rtt st) (calls.answer c call s)
    unfolding update calls.answer calls.verdict_of
    ack_refines =
        let e : full_verdict full s.expected ≡ full_verdict full st.books.expected = ap (full_verdict full) (sym S.others.expected) in
        rw (judged, verdict-is full rtt ranged, e)
        (by_tests (eqb (length s.packets) 0) (ltb (sent_of s) (rules.ack_of s n.0)) refl (full_verdict full st.books.expected) e)
