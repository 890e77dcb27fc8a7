-- What the code of each rule requires and leaves, and how its parts make up the whole.
--   Standing, Losing, Flushable                     books and areas of a sender that keeps the book rules, in which a rule can be done
--   Drops, Waits                                    what is left by rule 1, and by the rules that wait
--   sendable                                        any packet of such books can be sent
--   losing_sendable, loss_acts                      rule 2
--   flush_acts, drop_acts, ack_waits, input_waits   rules 6, 1, 4 and 7; rule 5 is in Unsent
use Rattle.std.specs.Prelude.{◌≡◌, refl, List, ℕ, ◌+◌, ◌-◌, ◌*◌, ◌^◌, ◌≤◌, ◌<◌, take, get_or}
use Rattle.std.proofs.Common.{sym, ap, ◌∙◌, mod-eq_of_lt, arith}
use Rattle.std.proofs.Math.Path.{subst}
use Rattle.std.proofs.Math.Seq.{paste}
use Rattle.rules_numbers.specs.declared.SeqNumber.{SeqNumber}
use Rattle.rules_numbers.specs.Modular.{seqs, plus, dist}
use Rattle.rules_numbers.specs.Modular.Laws.{plus-is}
use Rattle.ring.specs.declared.Entry.{Entry}
use Rattle.ring.specs.Entry.{read_e}
use Rattle.ring.specs.Ring.{slot_of}
use Rattle.action_records.specs.declared.Kind.TheVariants as variants
use Rattle.action_records.specs.declared.Record.{Record}
use Rattle.action_records.specs.Record.{action_of, plain}
use Rattle.rules.specs.Numbers.{wire}
use Rattle.rules.specs.Settings.{Settings}
use Rattle.rules.specs.Sender.{Packet, Sender, nothing, wire_sizes}
use Rattle.rules_theorems.specs.Laws.BookRules.{Kept}
use Rattle.rules.specs.Records.{Send, ByLoss, Action, encode, send_record, drop_record, wait_input, wait_ack}
use Rattle.buffer.specs.declared.SendBuffer.{SendBuffer}
use Rattle.buffer.specs.State.{State, state, packet_of, packets_of, put}
use Rattle.buffer.specs.State.Stands.{Stands, Ready}
use Rattle.buffer.specs.State.Facts.{stands_facts, stands-entry}
use Rattle.buffer.specs.State.View.{packets-at}
use Rattle.buffer.specs.Removal.{removed}
use Rattle.buffer.specs.Removal.Laws.{Removed}
use Rattle.run_effects.specs.declared.Records.{Records}
use Rattle.run_effects.specs.Sending.{Turned, Acted, Pushed, Wrote, Acts, dropped, sent_as, popped, loss_turn, window_turn, input_turn, holding, flush_turn, written}
use Rattle.run_effects.specs.Sending.Laws.{Recorded, Sendable}
use Rattle.run_effects.specs.Sending.Stands.{nearest-below}

-- whatever the loss list's words are
pub record Standing (b : SendBuffer) (ring : List ℕ) : Type 0 where
  pub settings : Settings
  pub lost : List ℕ
  pub ready : Ready settings (state b ring lost)

pub record Losing (b : SendBuffer) (now : ℕ) (ring lost : List ℕ) : Type 0 where
  pub settings : Settings
  pub ready : Ready settings (state b ring lost)
  pub some : 0 < b.lost
  pub early : now < 2 ^ 48

pub record Flushable (c : Settings) (st : State) : Type 0 where
  pub ready : Ready c st
  pub one : 1 ≤ st.books.ring.len

pub record Drops (k : ℕ) (b : SendBuffer) (lost : List ℕ) (given : Records) (after : SendBuffer) (left : Records) : Type 0 where
  pub is : (xs : List ℕ) → Wrote (dropped k) (state b xs lost) given (state after xs lost) left

-- a rule that waits changes only the list
pub record Waits (tn : State → Turned) (b : SendBuffer) (given : Records) (after : SendBuffer) (left : Records) : Type 0 where
  pub is : (ring lost : List ℕ) → Wrote tn (state b ring lost) given (state after ring lost) left

pub sendable : {c : Settings} {st : State} {s : Sender} → Stands c st s → Kept c s → (i now : ℕ) → i < st.books.ring.len → now < 2 ^ 48
    → Sendable st.books i now st.ring
sendable {c} {st} {s} S K i now h early =
    let f = stands_facts S K in
    let e = stands-entry S K i h in
    record {
      placed = f.placed;
      inside = h;
      early = early;
      mean = f.mean;
      variance = f.variance;
      time = e.time;
      message = e.message;
      len = omega (arith, e.len, f.settings.size);
      count = e.most;
    }

-- ## Rule 2

module _ (b : SendBuffer) (now : ℕ) (ring lost : List ℕ) (near : SeqNumber) (i : ℕ) (rest : SendBuffer) (is_last : near.0 ≡ get_or lost (b.lost - 1) 0)
    (at : i ≡ dist seqs b.front.0 near.0) (is : rest ≡ put b b.ring b.front.0 b.sent (b.lost - 1) b.bytes) where
  place : i ≡ dist seqs b.front.0 (get_or lost (b.lost - 1) 0)
  place = at ∙ ap (dist seqs b.front.0) is_last

  pub losing_sendable : Losing b now ring lost → Sendable rest i now ring
  losing_sendable L =
      let S = L.ready.stands in
      let K = L.ready.kept in
      let below : i < b.sent = rw place (nearest-below S K L.some) in
      let q = sendable S K i now (let f = stands_facts S K in omega (arith, below, f.sent)) L.early in
      rw is (record {
        placed = q.placed;
        inside = q.inside;
        early = q.early;
        mean = q.mean;
        variance = q.variance;
        time = q.time;
        message = q.message;
        len = q.len;
        count = q.count;
      })

  pub loss_acts : (given : Records) (after : SendBuffer) (words : List ℕ) (left : Records) → Acts (sent_as ByLoss now i b.sent) rest ring given after words left
      → Wrote (loss_turn now) (state b ring lost) given (state after words lost) left
  unfolding loss_turn popped
  loss_acts given after words left A =
      let W = A.is lost in
      let st : state rest ring lost ≡ popped (state b ring lost) = rw is in
      let a = subst (λ (j : ℕ). Acted (sent_as ByLoss now j b.sent) (state rest ring lost) given.count given.list.now (state after words lost) left.count left.list.now) place W.acted in
      let d = subst (λ (x : State). Acted (sent_as ByLoss now (dist seqs b.front.0 (get_or lost (b.lost - 1) 0)) b.sent) x given.count given.list.now (state after words lost) left.count left.list.now) st a in
      record { acted = record { state = d.state; count = d.count; list = d.list }; same = W.same }

-- ## Rule 6

pub flush_acts : (c : Settings) (b : SendBuffer) (ring lost : List ℕ) (given left : Records) (e : Entry) (gone : ℕ) (r : SendBuffer) (a : Record)
    → 0 < b.ring.len
    → b.front.0 < 2 ^ 31
    → e ≡ read_e ring (slot_of b.ring 0)
    → gone ≡ wire_sizes c (take 1 (packets_of b.ring ring))
    → Removed b lost 1 (b.bytes - gone) r
    → Recorded Send b.front.0 e a
    → Pushed given (action_of a) left
    → Wrote (flush_turn c) (state b ring lost) given (state (holding b.front b.ring.slot e.len r) ring lost) left
unfolding flush_turn written packet_of
flush_acts c b ring lost given left e gone r a h small p q R A P =
    let front : get_or (packets_of b.ring ring) 0 nothing ≡ packet_of e = packets-at b.ring ring 0 h ∙ ap packet_of (sym p) in
    let st : state r ring lost ≡ removed 1 (b.bytes - wire_sizes c (take 1 (packets_of b.ring ring))) (state b ring lost) =
    subst (λ (g : ℕ). state r ring lost ≡ removed 1 (b.bytes - g) (state b ring lost)) q (R.is ring) in
    let zero-on : b.front.0 + 0 ≡ b.front.0 = omega arith in
    let number : b.front.0 ≡ wire (b.front.0 + 0) = sym (ap wire zero-on ∙ mod-eq_of_lt small) in
    let held : ℕ → State → State = λ k x. state (holding b.front b.ring.slot k x.books) x.ring x.lost in
    record {
      acted = record {
        state =
            ap (held e.len) st
            ∙ ap (λ (k : ℕ). held k (removed 1 (b.bytes - wire_sizes c (take 1 (packets_of b.ring ring))) (state b ring lost))) (sym (ap (λ (x : Packet). x.len) front));
        count = P.count;
        list =
            P.list
            ∙ ap (λ (x : Action). paste given.list.now (given.count * 24) (encode x) 24) (A.is (b.front.0 + 0) number ∙ ap (send_record Send (b.front.0 + 0)) (sym front));
      };
      same = P.same;
    }

-- ## Rules 1, 4 and 7

pub drop_acts : (k : ℕ) (b : SendBuffer) (lost : List ℕ) (given left : Records) (to : SeqNumber) (a : Record) (r : SendBuffer) → b.front.0 < 2 ^ 31
    → to.0 ≡ plus seqs b.front.0 k
    → a ≡ plain variants.Drop b.front.0 to.0 0
    → Pushed given (action_of a) left
    → Removed b lost k b.bytes r
    → Drops k b lost given r left
unfolding dropped written drop_record
drop_acts k b lost given left to a r small e f P R = record {
  is = λ xs.
      record {
        acted = record {
          state = R.is xs;
          count = P.count;
          list = P.list ∙ ap (λ (x : Action). paste given.list.now (given.count * 24) (encode x) 24) (rw (f, mod-eq_of_lt small, e ∙ plus-is seqs b.front.0 k));
        };
        same = P.same;
      };
}

module _ (b : SendBuffer) (given : Records) (a : Record) (left : Records) (P : Pushed given (action_of a) left) where
  pub ack_waits : (sent : ℕ) → sent ≡ b.sent → a ≡ plain variants.WaitForAck 0 sent 10_000 → Waits window_turn b given b left
  unfolding written window_turn wait_ack
  ack_waits sent e f = record {
    is = λ ring lost. record { acted = record { state = refl; count = P.count; list = P.list ∙ rw (f, e) }; same = P.same };
  }

  pub input_waits : a ≡ plain variants.WaitForInput 0 0 0 → Waits input_turn b given b left
  unfolding written input_turn wait_input
  input_waits f = record {
    is = λ ring lost. record { acted = record { state = refl; count = P.count; list = P.list ∙ rw f }; same = P.same };
  }
