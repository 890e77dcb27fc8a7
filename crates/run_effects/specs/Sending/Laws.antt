-- What the code of a sending uses.
--   Recorded k m e r                       r is the record of a sending of the entry e, whose number is m on the wire
--   place_bits_of, again-bit, recorded     the record's flags, and the record
--   wait-first, wait-again                 the time from now to the resend
--   wait_product                           its product is bounded: about the definition, no code cites it now
--   Sendable, sent_books, sent-from        what a sending requires, the books after it, and the whole from its parts
--   acts_as                                the same for an equal turn
--   written-append                         the records of two turns in the list
use Rattle.std.specs.Prelude.{◌≡◌, refl, List, [], ◌∷◌, ◌++◌, ℕ, zero, suc, ◌+◌, ◌-◌, ◌*◌, ◌^◌, ◌≤◌, ◌<◌, min, length, get_or}
use Rattle.std.proofs.Common.{sym, ap, ◌∙◌, mul-le-mul, arith}
use Rattle.std.proofs.Math.Seq.{paste}
use Rattle.rules_numbers.specs.declared.SeqNumber.{SeqNumber}
use Rattle.rules_numbers.specs.Modular.{seqs, plus}
use Rattle.rules_numbers.specs.Modular.Laws.{plus-is}
use Rattle.rules_packets.specs.Header.{place_bits, bit, stamp}
use Rattle.ring.specs.declared.Entry.{Entry}
use Rattle.action_records.specs.declared.Record.{Record}
use Rattle.action_records.specs.declared.Kind as records
use Rattle.action_records.specs.Record.{kind_of, action_of}
use Rattle.ring.specs.Entry.{read_e, write_e}
use Rattle.ring.specs.Ring.{slot_of}
use Rattle.ring.specs.Ring.Laws.{Placed}
use Rattle.rules.specs.Numbers.{wire}
use Rattle.rules.specs.Sender.{nothing}
use Rattle.rules.specs.Records.{Kind, Action, encode, send_record, sent_before}
use Rattle.rules.specs.Run.{wait}
use Rattle.buffer.specs.declared.SendBuffer.{SendBuffer}
use Rattle.buffer.specs.State.{State, state, place_from, packet_of, packets_of, put}
use Rattle.buffer.specs.State.View.{packets-at}
use Rattle.run_effects.specs.declared.Records.{Records}
use Rattle.run_effects.specs.Sending.{Turned, Pushed, Acts, stamped, sent_words, sent_as, written}

pub record Recorded (k : Kind) (m : ℕ) (e : Entry) (r : Record) : Type 0 where
  pub is : (n : ℕ) → m ≡ wire n → action_of r ≡ send_record k n (packet_of e)

pub place_bits_of : (w : ℕ) → min w 3 ≡ place_bits (place_from w)
place_bits_of zero = refl
place_bits_of (suc zero) = refl
place_bits_of (suc (suc zero)) = refl
place_bits_of (suc (suc (suc w))) = omega arith

pub again-bit : (n : ℕ) → min n 1 ≡ bit (sent_before n)
unfolding sent_before
again-bit zero = refl
again-bit (suc n) = omega arith

pub wait_product : (n b : ℕ) → n ≤ 65_535 → b ≤ 1_000_000_000 → n * b ≤ 65_535 * 1_000_000_000
wait_product n b h k = mul-le-mul h k

pub wait-first : (b n : ℕ) → n < 1 → min (2 ^ 30 - 1) b ≡ wait b n
unfolding wait
wait-first b zero h = refl
wait-first b (suc n) h = absurd (omega arith)

pub wait-again : (b n : ℕ) → 1 ≤ n → min (2 ^ 30 - 1) (n * b + 10_000) ≡ wait b n
unfolding wait
wait-again b zero h = absurd (omega arith)
wait-again b (suc n) h = refl

pub recorded : (k : records.Kind) (number : SeqNumber) (e : Entry) (place count : ℕ) (st : ℕ) → place ≡ min e.place 3 → count ≡ min e.count 1 → st ≡ stamp e.time
    → Recorded (kind_of k) number.0 e
    (record { kind = k; flags = place * 64 + count; len = e.len; number = number.0; word = e.message; stamp = st; time = e.time })
unfolding send_record packet_of
recorded k number e place count st p q r = record {
  is = λ n h. rw (p, q, r, h, place_bits_of e.place, again-bit e.count);
}

-- ## A sending

-- what a sending requires: the packet is there, and its words, the RTT and the time are in their ranges
pub record Sendable (b : SendBuffer) (i now : ℕ) (ring : List ℕ) : Type 0 where
  pub placed : Placed b.ring ring
  pub inside : i < b.ring.len
  pub early : now < 2 ^ 48
  pub mean : b.rtt.mean ≤ 100_000_000
  pub variance : b.rtt.variance ≤ 100_000_000
  pub time : (read_e ring (slot_of b.ring i)).time < 2 ^ 48
  pub message : (read_e ring (slot_of b.ring i)).message < 2 ^ 26
  pub len : (read_e ring (slot_of b.ring i)).len ≤ 1_456
  pub count : (read_e ring (slot_of b.ring i)).count ≤ 65_535

-- the books after it
abbrev pub sent_books : ℕ → SendBuffer → SendBuffer
sent_books sent b = put b b.ring b.front.0 sent b.lost b.bytes

-- one more record
one_written : (n : ℕ) (a : Action) (out : List ℕ) → paste out (n * 24) (encode a) 24 ≡ written n (a ∷ []) out
unfolding written
one_written n a out = refl

sent_acts : (k : Kind) (now i sent : ℕ) (b : SendBuffer) (ring : List ℕ) (given left : Records) (number : SeqNumber) (r : Record) → i < b.ring.len
    → number.0 ≡ plus seqs b.front.0 i
    → Recorded k number.0 (read_e ring (slot_of b.ring i)) r
    → Pushed given (action_of r) left
    → Acts (sent_as k now i sent) b ring given (sent_books sent b) (sent_words now i b ring) left
unfolding sent_as
sent_acts k now i sent b ring given left number r h e R P =
    let list : paste given.list.now (given.count * 24) (encode (action_of r)) 24 ≡ written given.count (send_record k (b.front.0 + i) (get_or (packets_of b.ring ring) i nothing) ∷ []) given.list.now =
    rw (R.is (b.front.0 + i) (e ∙ plus-is seqs b.front.0 i), ← packets-at b.ring ring i h)
    (one_written given.count (send_record k (b.front.0 + i) (get_or (packets_of b.ring ring) i nothing)) given.list.now) in
    record {
      is = λ lost. record { acted = record { state = refl; count = P.count; list = P.list ∙ list }; same = P.same };
    }

pub sent-from : (k : Kind) (now i sent : ℕ) (b : SendBuffer) (ring : List ℕ) (given left : Records) (e x : Entry) (number : SeqNumber) (r : Record) (words : List ℕ) → i < b.ring.len
    → e ≡ read_e ring (slot_of b.ring i)
    → x ≡ stamped now b.rtt e
    → words ≡ write_e ring (slot_of b.ring i) x
    → number.0 ≡ plus seqs b.front.0 i
    → Recorded k number.0 e r
    → Pushed given (action_of r) left
    → Acts (sent_as k now i sent) b ring given (sent_books sent b) words left
sent-from k now i sent b ring given left e x number r words h p q w m R P =
    rw (w, q, p) (sent_acts k now i sent b ring given left number r h m (rw p at R) P)

-- the same for an equal turn
pub acts_as : (tn t : State → Turned) (b : SendBuffer) (ring : List ℕ) (given : Records) (after : SendBuffer) (words : List ℕ) (left : Records)
    → ((lost : List ℕ) → tn (state b ring lost) ≡ t (state b ring lost))
    → Acts t b ring given after words left
    → Acts tn b ring given after words left
acts_as tn t b ring given after words left e A = record {
  is = λ lost.
      let W = A.is lost in
      record {
        acted = record {
          state = W.acted.state ∙ sym (ap (λ (u : Turned). u.state) (e lost));
          count = W.acted.count ∙ sym (ap (λ (u : Turned). given.count + length u.records) (e lost));
          list = W.acted.list ∙ sym (ap (λ (u : Turned). written given.count u.records given.list.now) (e lost));
        };
        same = W.same;
      };
}

-- the records of two turns, one behind the other
pub written-append : (n : ℕ) (rs qs : List Action) (out : List ℕ) → written n (rs ++ qs) out ≡ written (n + length rs) qs (written n rs out)
unfolding written
written-append n [] qs out = let e : n + 0 ≡ n = omega arith in rw e
written-append n (a ∷ rs) qs out =
    let e : n + suc (length rs) ≡ suc n + length rs = omega arith in
    rw e (written-append (suc n) rs qs (paste out (n * 24) (encode a) 24))
