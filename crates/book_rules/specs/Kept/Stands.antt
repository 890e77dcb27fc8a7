-- The check of the books agrees with the rules, both ways, so refusal 3, BadState, is exact.
--   held_of f                 the flushed packet, as in the rules
--   seen_as p st              the sender that the books represent, with pacing p; its numbers count on from the front's
--   kept-stands, kept_rules   books that keep the rules represent that sender, and it keeps the rules if pacing does
--   kept-ready                such books are ready
--   ready-kept                books that represent any sender that keeps the rules keep them
--   new-kept                  new books keep them
use Rattle.std.specs.Prelude.{◌≡◌, Bool, true, ◌&&◌, List, [], ◌∷◌, ℕ, suc, ◌+◌, ◌-◌, ◌*◌, ◌^◌, ◌≤◌, ◌<◌, ltb, get_or, take, drop, Option, Some, None}
use Rattle.std.proofs.Math.Path.{refl, sym}
use Rattle.std.proofs.Common.{ap, ◌∙◌, mod-eq_of_lt, length-drop, get_or-take, get_or-drop}
use Rattle.std.proofs.Math.Bool.{and-eq-true_iff}
use native.Mathlib.Omega.{arith}
use Rattle.std.proofs.Math.Dec.{leb}
use Rattle.std.proofs.Math.ListN.{length}
use Rattle.std.proofs.Math.Seq.{length-take-le}
use borrow.Author.Tests.{ltb-true, leb-true, lt-ltb, le-leb, eq-eqb}
use Rattle.rules_numbers.specs.Modular.{seqs, dist}
use Rattle.rules_pacing.specs.declared.SenderCongestionControl.{SenderCongestionControl}
use Rattle.rules_pacing.specs.declared.LiveBandwidthMode.TheVariants.{Unlimited}
use Rattle.rules_pacing.specs.Kept as Pacing
use Rattle.pacing.specs.Laws.Kept as PacingLaws
use Rattle.ring.specs.declared.Entry.{Entry}
use Rattle.ring.specs.Entry.{read_e}
use Rattle.ring.specs.Ring.{slot_of}
use Rattle.loss_list.specs.LossList.{descends, keeps}
use Rattle.loss_list.specs.LossList.Stands as losses
use Rattle.loss_list.specs.LossList.Stands.{key_of, seen, stands-length}
use Rattle.loss_list.proofs.LossList.Stands.BookRules.{stands-keeps, keeps-stands, keeps-ascends}
use Rattle.rules.specs.Numbers.{wire}
use Rattle.rules_theorems.specs.Laws.Numbers.{wire-below}
use Rattle.rules.specs.Settings.{Settings, in_range, capacity}
use Rattle.rules.specs.Sender as rules
use Rattle.rules.specs.Sender.{Packet, Sender, nothing, sent_of, wire_sizes}
use Rattle.rules.specs.BookRules as books
use Rattle.rules.specs.BookRules.{every, sent_kept, unsent_kept, held_is_kept}
use Rattle.rules_theorems.specs.Laws.BookRules.{Kept, Sent, Unsent, HeldIn, kept_facts}
use Rattle.rules_theorems.proofs.CallsKept.{fresh_kept}
use Rattle.buffer.specs.State.{State, state, packet_of, view, lost_of, fresh}
use Rattle.buffer.specs.State.View.{packets-length, packets-at}
use Rattle.buffer.specs.State.Stands.{HeldAs, Stands, Ready}
use Rattle.buffer.specs.State.Fresh.{fresh-stands}
use Rattle.buffer.specs.State.Facts.{stands_facts, stands-sent, stands-unsent}
use Rattle.book_rules.specs.Kept.{flushed_kept, numbers_kept, areas_kept, sent_entry, unsent_entry, entries_kept, kept}
use Rattle.book_rules.specs.Kept.Entries.{sent_is, unsent-is, entry-sent, entry-unsent, entry-short, entries_by}
use Rattle.book_rules.specs.Kept.Laws.{Numbered, Framed, numbers_facts, facts_numbers, areas_facts, facts_areas}
use Rattle.buffer.specs.declared.FlushedPacket.{FlushedPacket}

abbrev pub held_of : Option FlushedPacket → Option rules.Held
held_of None = None
held_of (Some p) = Some (record { number = p.number.0; slot = p.slot; len = p.len })

abbrev pub seen_as : SenderCongestionControl → State → Sender
seen_as p st =
    let b = st.books in
    record {
      packets = view st;
      front = b.front.0;
      next = b.front.0 + b.sent;
      lost = seen b.front.0 (lost_of st);
      bytes = b.bytes;
      rtt = b.rtt;
      messages = b.message.0;
      expected = b.expected;
      held = held_of b.flushed;
      pacing = p;
      pushed = b.ring.slot + b.ring.len;
    }

on : (t : Bool) (ts : List Bool) → t ≡ true → every ts ≡ true → every (t ∷ ts) ≡ true
unfolding every
on t ts p q = rw p q

no_tests : every [] ≡ true
unfolding every
no_tests = refl

all-by : (t : Packet → Bool) (ps : List Packet) → ((i : ℕ) → i < length ps → t (get_or ps i nothing) ≡ true) → books.all t ps ≡ true
unfolding books.all
all-by t [] f = refl
all-by t (p ∷ ps) f = rw (f 0 (omega arith)) (all-by t ps (λ i h. f (suc i) (omega arith)))

small : (n : ℕ) → n < 2 ^ 31 → n ≡ wire n
small n h = sym (mod-eq_of_lt h)

-- ## The flushed packet

module _ (c : Settings) where
  flushed-held : (f : Option FlushedPacket) → flushed_kept c f ≡ true → HeldAs f (held_of f)
  flushed-held None e = tt
  flushed-held (Some p) e = (small p.number.0 (ltb-true _ _ ((and-eq-true_iff (ltb p.number.0 (2 ^ 31)) _).0 e).0), refl, refl)

  flushed-kept : (f : Option FlushedPacket) → flushed_kept c f ≡ true → held_is_kept c (held_of f) ≡ true
  unfolding held_is_kept
  flushed-kept None e = refl
  flushed-kept (Some p) e = ((and-eq-true_iff (ltb p.number.0 (2 ^ 31)) (ltb p.slot (capacity c) && leb p.len c.size)).0 e).1

  held-flushed : (f : Option FlushedPacket) (h : Option rules.Held) → HeldAs f h → HeldIn c h → flushed_kept c f ≡ true
  held-flushed None h a k = refl
  held-flushed (Some p) None a k = absurd a
  held-flushed (Some p) (Some h) a k =
      let number : p.number.0 < 2 ^ 31 = rw a.0 (wire-below h.number) in
      let there : p.slot < capacity c = rw a.1 k.0 in
      let short : p.len ≤ c.size = rw a.2 k.1 in
      rw (lt-ltb _ _ number, lt-ltb _ _ there, le-leb _ _ short)

-- ## Books that keep the rules

record Parts (c : Settings) (st : State) : Type 0 where
  pub numbers : Numbered c st.books
  pub areas : Framed c st.books st.ring st.lost
  pub entries : entries_kept c st.books st.ring ≡ true
  pub covers : wire_sizes c (view st) ≤ st.books.bytes
  pub inside : st.books.lost ≤ length st.lost
  pub descending : descends (dist seqs st.books.front.0) st.books.sent (lost_of st) ≡ true

parts : (c : Settings) (st : State) → kept c st ≡ true → Parts c st
unfolding kept keeps
parts c st e =
    let b = st.books in
    let r₁ = (and-eq-true_iff (numbers_kept c b && areas_kept c b (length st.ring) (length st.lost)) _).0 e in
    let r₂ = (and-eq-true_iff (numbers_kept c b) _).0 r₁.0 in
    let r₃ = (and-eq-true_iff (entries_kept c b st.ring) _).0 r₁.1 in
    let r₄ = (and-eq-true_iff (leb (wire_sizes c (view st)) b.bytes) _).0 r₃.1 in
    let r₅ = (and-eq-true_iff (leb b.lost (length st.lost)) _).0 r₄.1 in
    record {
      numbers = numbers_facts c b r₂.0;
      areas = areas_facts c b st.ring st.lost r₂.1;
      entries = r₃.0;
      covers = leb-true _ _ r₄.0;
      inside = leb-true _ _ r₅.0;
      descending = r₅.1;
    }

module _ (c : Settings) (st : State) (e : kept c st ≡ true) where
  P : Parts c st
  P = parts c st e

  few : st.books.sent ≤ st.books.ring.len
  few = P.numbers.sent

  ordered : descends (key_of st.books.front.0) st.books.sent (lost_of st) ≡ true
  ordered = ap (λ (f : ℕ). descends (dist seqs f) st.books.sent (lost_of st)) (sym (small st.books.front.0 P.numbers.front)) ∙ P.descending

  list-stands : losses.Stands (seen st.books.front.0 (lost_of st)) st.books.front.0 (lost_of st)
  list-stands =
      keeps-stands st.books.front.0 st.books.sent (lost_of st) ordered (let p = P.areas.placed in omega (arith, few, p.len, p.cap))

  pub kept-stands : (p : SenderCongestionControl) → Stands c st (seen_as p st)
  kept-stands p = record {
    placed = P.areas.placed;
    cap = P.areas.cap;
    room = rw P.areas.cap at P.areas.room;
    packets = refl;
    places = λ i h. (entry-short c st.books st.ring few P.entries i h).0;
    front = small st.books.front.0 P.numbers.front;
    next = refl;
    count = sym (length-take-le st.books.lost st.lost P.inside) ∙ stands-length list-stands;
    lost = list-stands;
    bytes = refl;
    others = record { rtt = refl; message = refl; expected = refl; held = flushed-held c st.books.flushed P.numbers.flushed };
    turns = 0;
    pushed = omega arith;
  }

  sent-all : books.all (sent_kept c) (take st.books.sent (view st)) ≡ true
  unfolding sent_entry
  sent-all = all-by (sent_kept c) (take st.books.sent (view st)) (λ i h. at i (rw long at h))
    where
      long : length (take st.books.sent (view st)) ≡ st.books.sent
      long = length-take-le st.books.sent (view st) (rw packets-length few)

      at : (i : ℕ) → i < st.books.sent → sent_kept c (get_or (take st.books.sent (view st)) i nothing) ≡ true
      at i h =
          rw (get_or-take st.books.sent (view st) i nothing h, packets-at st.books.ring st.ring i (omega (arith, few)))
          ((and-eq-true_iff (leb (read_e st.ring (slot_of st.books.ring i)).place 3) _).0 (entry-sent c st.books st.ring few P.entries i h)).1

  unsent-all : books.all (unsent_kept c) (drop st.books.sent (view st)) ≡ true
  unfolding unsent_entry
  unsent-all = all-by (unsent_kept c) (drop st.books.sent (view st)) (λ i h. at i (rw long at h))
    where
      long : length (drop st.books.sent (view st)) ≡ st.books.ring.len - st.books.sent
      long = simp (length-drop, packets-length)

      at : (i : ℕ) → i < st.books.ring.len - st.books.sent → unsent_kept c (get_or (drop st.books.sent (view st)) i nothing) ≡ true
      at i h =
          let j : ℕ = st.books.sent + i in
          rw (get_or-drop st.books.sent (view st) i nothing, packets-at st.books.ring st.ring j (omega arith))
          ((and-eq-true_iff (leb (read_e st.ring (slot_of st.books.ring j)).place 3) _).0
          (entry-unsent c st.books st.ring few P.entries j (omega arith) (omega arith))).1

  module _ (p : SenderCongestionControl) (k : Pacing.kept p ≡ true) where
    sent-count : sent_of (seen_as p st) ≡ st.books.sent
    sent-count = omega arith

    rules_kept : books.kept c (seen_as p st) ≡ true
    unfolding books.kept
    rules_kept =
        let n = P.numbers in
        let fits : length (view st) ≤ capacity c = rw packets-length (omega (arith, P.areas.placed.len, P.areas.cap)) in
        let low : st.books.front.0 ≤ st.books.front.0 + st.books.sent = omega arith in
        let high : st.books.front.0 + st.books.sent ≤ st.books.front.0 + length (view st) = rw packets-length (omega (arith, few)) in
        on _ _ n.settings
        (on _ _ (le-leb _ _ fits)
        (on _ _ (le-leb _ _ low)
        (on _ _ (le-leb _ _ high)
        (on _ _ (keeps-ascends st.books.front.0 st.books.sent (lost_of st) ordered)
        (on _ _ (rw sent-count sent-all)
        (on _ _ (rw sent-count unsent-all)
        (on _ _ (lt-ltb _ _ n.bytes)
        (on _ _ (le-leb _ _ P.covers)
        (on _ _ k
        (on _ _ (le-leb _ _ n.least)
        (on _ _ (le-leb _ _ n.most)
        (on _ _ n.rtt
        (on _ _ (lt-ltb _ _ n.message)
        (on _ _ (flushed-kept c st.books.flushed n.flushed) no_tests))))))))))))))

    pub kept_rules : Kept c (seen_as p st)
    kept_rules = kept_facts c (seen_as p st) rules_kept

  pub kept-ready : Ready c st
  kept-ready = record {
    sender = seen_as (Pacing.fresh Unlimited) st;
    stands = kept-stands (Pacing.fresh Unlimited);
    kept = kept_rules (Pacing.fresh Unlimited) (PacingLaws.fresh_kept Unlimited refl);
  }

-- ## Books that represent a sender which keeps the rules

module _ (c : Settings) (e : Entry) (place : e.place ≤ 3) where
  sent-entry : Sent c (packet_of e) → sent_entry c e ≡ true
  unfolding packet_of
  sent-entry p =
      sym (sent_is c e)
      ∙ rw (
        le-leb _ _ place,
        lt-ltb _ _ p.time,
        lt-ltb _ _ p.message,
        le-leb _ _ p.len,
        le-leb _ _ p.once,
        le-leb _ _ p.most,
        lt-ltb _ _ p.resend,
      )

  unsent-entry : Unsent c (packet_of e) → unsent_entry c e ≡ true
  unfolding packet_of
  unsent-entry p =
      sym (unsent-is c e)
      ∙ rw (le-leb _ _ place, lt-ltb _ _ p.time, lt-ltb _ _ p.message, le-leb _ _ p.len, eq-eqb _ _ p.never, eq-eqb _ _ p.unset)

module _ {c : Settings} {st : State} {s : Sender} (S : Stands c st s) (K : Kept c s) where
  list-kept : descends (dist seqs st.books.front.0) st.books.sent (lost_of st) ≡ true
  list-kept =
      let f = stands_facts S K in
      let p = f.placed in
      rw S.front (stands-keeps st.books.sent (omega (arith, f.sent, p.len, p.cap)) S.lost (rw S.next at K.good.lost))

  pub ready-kept : kept c st ≡ true
  unfolding kept keeps
  ready-kept =
      let f = stands_facts S K in
      let b = st.books in
      let numbers = facts_numbers c b (record {
        settings = K.fields.settings;
        front = f.front;
        sent = f.sent;
        bytes = f.bytes;
        least = f.least;
        most = f.most;
        rtt = rw S.others.rtt K.fields.rtt;
        message = f.message;
        flushed = held-flushed c b.flushed s.held S.others.held K.fields.held;
      }) in
      let areas = facts_areas c b st.ring st.lost (record { placed = f.placed; cap = f.cap; room = f.room }) in
      let entries = entries_by c b st.ring f.sent
      (λ i h. sent-entry c (read_e st.ring (slot_of b.ring i)) (S.places i (omega (arith, f.sent))) (stands-sent S K i h))
      (λ i h k. unsent-entry c (read_e st.ring (slot_of b.ring i)) (S.places i k) (stands-unsent S K i h k)) in
      let covers : wire_sizes c (view st) ≤ b.bytes = rw (S.packets, S.bytes) K.covers in
      rw (numbers, areas, entries, le-leb _ _ covers, le-leb _ _ f.inside, list-kept)

pub new-kept : (c : Settings) (ring lost : List ℕ) → in_range c ≡ true → capacity c * 6 ≤ length ring → capacity c ≤ length lost
    → kept c (state (fresh c) ring lost) ≡ true
new-kept c ring lost e area room = ready-kept (fresh-stands c Unlimited ring lost e area room) (fresh_kept c Unlimited e refl)
