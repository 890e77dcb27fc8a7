-- What the code uses of an ACK on the books.
--   Acceptable, Asked   what the code requires
--   judge-is            a chain of the tests for 9 and 10 is the verdict of the definition; no code cites it now
--   given-is, expects   the RTT and the expected full number from now on
--   lost-less, done-is, update-refused, update-stale, update-done   the parts of the code make up the whole
--   acceptable          an ACK that isn't refused finds its packets, and their wire sizes in the byte count
use Rattle.std.specs.Prelude.{◌≡◌, false, List, [], ℕ, refl, ◌+◌, ◌-◌, ◌^◌, ◌≤◌, ◌<◌, ltb, eqb, take, unwrap_or, Option, Some, None, MatchOption, Result, Ok, Err}
use Rattle.std.proofs.Math.Path.{ap}
use Rattle.std.proofs.Common.{◌∙◌, arith}
use borrow.Author.Tests.{ltb-false}
use Rattle.rules_numbers.specs.declared.SeqNumber.{SeqNumber}
use Rattle.rules_numbers.specs.Modular.{seqs, plus, dist}
use Rattle.rules_refusals.specs.declared.Refusal.{Refusal}
use Rattle.rules_refusals.specs.declared.Refusal.TheVariants.{Empty, InvalidAck}
use Rattle.rules_refusals.specs.Verdict.{Verdict, accepted, when}
use Rattle.refusals.specs.Laws.{when-accepted, answer-refused, answer-accepted}
use Rattle.loss_list.specs.LossList.Laws.{staying-few}
use Rattle.rules_numbers.specs.declared.Rtt.{Rtt}
use Rattle.rules.specs.Settings.{Settings}
use Rattle.rules.specs.Sender.{wire_sizes}
use Rattle.rules.specs.Ack as rules
use Rattle.rules.specs.Ack.{expect}
use Rattle.rules.specs.Refusals.{bad_rtt, full_verdict}
use Rattle.rules_theorems.proofs.Packets.{sizes_drop}
use Rattle.buffer.specs.declared.SendBuffer.{SendBuffer}
use Rattle.buffer.specs.State.{State, state, view}
use Rattle.buffer.specs.State.Stands.{Ready}
use Rattle.buffer.specs.State.Facts.{stands_facts, stands-entry}
use Rattle.buffer.specs.Removal.{removed, key_after, staying, going}
use Rattle.buffer.specs.Removal.Laws.{Removable, Removed, Weighable}
use Rattle.buffer_ack.specs.Ack.{with, ack_of, judge, judge_on, take_rtt, acknowledged, refused, done, update}
use Rattle.buffer_ack.specs.declared.AckAction.{AckAction}

-- d packets can be removed, and their wire sizes subtracted from the byte count
pub record Acceptable (c : Settings) (st : State) (d : ℕ) : Type 0 where
  pub weighable : Weighable c st.books.ring st.ring d
  pub removable : Removable st.books st.lost d
  pub covers : wire_sizes c (take d (view st)) ≤ st.books.bytes
  pub few : st.books.lost ≤ 8_192

-- the books are a sender's, n is a sequence number, and the round-trip time is in its range
pub record Asked (c : Settings) (st : State) (n : ℕ) (rtt : Option Rtt) : Type 0 where
  pub ready : Ready c st
  pub number : n < 2 ^ 31
  pub ranged : bad_rtt rtt ≡ false

-- ## What the code does

pub judge-is : (len : ℕ) (front : SeqNumber) (sent : ℕ) (n next : SeqNumber) (d l : ℕ) (outside v : Verdict) → next.0 ≡ plus seqs front.0 sent
    → d ≡ dist seqs front.0 n.0
    → outside ≡ when (ltb sent d) (InvalidAck n front next) accepted
    → l ≡ len
    → v ≡ when (eqb l 0) Empty outside
    → v ≡ judge len front sent n
unfolding judge
judge-is len front sent n next d l outside v e f g h k = k ∙ rw (h, g, f, e)

pub given-is : {A : Type 0} (o : Option A) (a : A) → unwrap_or o a ≡ rules.given o a
unfolding rules.given
given-is None a = refl
given-is (Some b) a = refl

pub expects : (full : Option ℕ) (old e : ℕ) → MatchOption full (e ≡ old) (λ n. e ≡ n + 1) → e ≡ expect full old
unfolding expect
expects None old e h = h
expects (Some n) old e h = h

module _ {b : SendBuffer} {lost : List ℕ} {d bytes : ℕ} {r : SendBuffer} (R : Removed b lost d bytes r) where
  -- without words of a ring, on which these counts don't depend
  abbrev bare : State
  bare = state b [] lost

  lost-is : r.lost ≡ staying d bare
  unfolding removed
  lost-is = ap (λ (st : State). st.books.lost) (R.is [])

  pub lost-less : r.lost ≤ b.lost
  lost-less = omega (arith, lost-is, staying-few (dist seqs b.front.0) (key_after d bare) lost b.lost)

  recovered-less : b.lost - r.lost ≡ going d bare
  recovered-less = rw lost-is

  -- the outcome that leaves st, but for the expected full number
  abbrev answered : Option ℕ → State → Result (SendBuffer × AckAction) (SendBuffer × Refusal)
  answered full st =
      Ok (with st.books st.books.rtt (expect full st.books.expected), record { received = d; recovered = going d bare; send_ack2 = full })

  pub done-is : (c : Settings) (full : Option ℕ) (ring : List ℕ) (gone e : ℕ) (a : SendBuffer) → gone ≡ wire_sizes c (take d (view (state b ring lost)))
      → bytes ≡ b.bytes - gone
      → e ≡ expect full r.expected
      → a ≡ with r r.rtt e
      → (Ok (a, record { received = d; recovered = b.lost - r.lost; send_ack2 = full })) ≡ done c d full (state b ring lost)
  unfolding done acknowledged
  done-is c full ring gone e a g k f i =
      let whole : state r ring lost ≡ removed d (b.bytes - wire_sizes c (take d (view (state b ring lost)))) (state b ring lost) =
      R.is ring ∙ ap (λ (m : ℕ). removed d m (state b ring lost)) (k ∙ ap (λ (m : ℕ). b.bytes - m) g) in
      rw (i, f, recovered-less) (ap (answered full) whole)

module _ (c : Settings) (n : SeqNumber) (full : Option ℕ) (rtt : Option Rtt) (st : State) (v : Verdict) (same : v ≡ judge_on n st) where
  pub update-refused : (r : Refusal) → v ≡ Err r → (Err (st.books, r)) ≡ update c n full rtt st
  unfolding update
  update-refused r e = answer-refused (refused st) v _ _ same r e

  -- the RTT is taken over, and then the full number is tested
  module _ (ok : v ≡ accepted) (b : SendBuffer) (taken : Rtt) (new : taken ≡ rules.given rtt st.books.rtt)
      (with-new : b ≡ with st.books taken st.books.expected) (w : Verdict) (tested : w ≡ full_verdict full b.expected) where
    taken_is : b ≡ (take_rtt rtt st).books
    taken_is = with-new ∙ ap (λ (r : Rtt). with st.books r st.books.expected) new

    tested_is : w ≡ full_verdict full st.books.expected
    tested_is = tested ∙ ap (λ (x : SendBuffer). full_verdict full x.expected) taken_is

    pub update-stale : (r : Refusal) → w ≡ Err r → (Err (b, r)) ≡ update c n full rtt st
    unfolding update
    update-stale r e = rw taken_is (answer-refused (refused (take_rtt rtt st)) w _ _ tested_is r e ∙ answer-accepted (refused st) v _ _ same ok)

    pub update-done : (d : ℕ) (a : Result (SendBuffer × AckAction) (SendBuffer × Refusal)) → w ≡ accepted → d ≡ ack_of n st
        → a ≡ done c d full (state b st.ring st.lost)
        → a ≡ update c n full rtt st
    unfolding update
    update-done d a e f g =
        g ∙ rw (taken_is, f) (answer-accepted (refused (take_rtt rtt st)) w _ _ tested_is e ∙ answer-accepted (refused st) v _ _ same ok)

-- ## What it requires

module _ {c : Settings} {st : State} (R : Ready c st) (n : SeqNumber) (ok : judge_on n st ≡ accepted) where
  near : ack_of n st ≤ st.books.sent
  unfolding judge
  near =
      let outside : Refusal = InvalidAck n st.books.front (record { 0 = plus seqs st.books.front.0 st.books.sent }) in
      let some = when-accepted (eqb st.books.ring.len 0) Empty (when (ltb st.books.sent (ack_of n st)) outside accepted) ok in
      ltb-false _ _ (when-accepted (ltb st.books.sent (ack_of n st)) outside accepted some.1).0

  pub acceptable : (b : SendBuffer) (rtt : Rtt) (d : ℕ) → b ≡ with st.books rtt st.books.expected → d ≡ ack_of n st
      → Acceptable c (state b st.ring st.lost) d
  acceptable b rtt d is e =
      let s = R.sender in
      let S = R.stands in
      let K = R.kept in
      let f = stands_facts S K in
      let p = f.placed in
      let few : d ≤ st.books.ring.len = omega (arith, near, f.sent) in
      rw is (record {
        weighable = record {
          placed = p;
          some = few;
          overhead = f.settings.overhead;
          lens = λ i h. let e = stands-entry S K i h in omega (arith, e.len, f.settings.size);
        };
        removable = record { cap = p.cap; slot = p.slot; len = p.len; some = few; inside = f.inside };
        covers = rw (S.packets, S.bytes) (omega (arith, sizes_drop c d s.packets, K.covers));
        few = omega (arith, f.lost, f.sent, p.len, p.cap);
      })
