-- A message on the books is a message in the rules.
--   Follows, follows_pushes   n packets on the books, compared with n packets in the rules
--   numbered                  the sender once the message has its number
--   stands-numbered           the books then represent it
--   message_refines, message-made, message-removed, message-wire, message-said, message-store
--                             the whole message: the books, the answer, the store
--   removals                  the packets removed by the message
use Rattle.std.specs.Prelude.{◌≡◌, List, length, None}
use Rattle.std.proofs.Math.Path.{refl, ap}
use Rattle.std.proofs.Common.{◌∙◌, arith}
use Prim.Native.Nat.{ℕ, zero, suc, ◌+◌, ◌%◌, ◌^◌}
use Rattle.std.proofs.Math.Numerals.{add-one}
use Rattle.std.proofs.Math.ListN.{length-append}
use Rattle.rules_numbers.specs.Modular.Laws.{plus-is}
use Rattle.rules_packets.specs.Split.{count}
use Rattle.rules_pacing.specs.declared.SenderCongestionControl.{SenderCongestionControl}
use Rattle.rules_pacing.specs.Pacing.{after, input}
use Rattle.rules.specs.Settings.{Settings}
use Rattle.rules.specs.Sender.{Packet, Sender, wire_sizes}
use Rattle.rules.specs.Message as rules
use Rattle.rules.specs.Calls as said
use Rattle.rules_theorems.proofs.Packets.{sizes_append}
use Rattle.buffer.specs.State.{State}
use Rattle.buffer.specs.State.Stands.{Stands}
use Rattle.buffer_push.specs.Message.{Pushing, roomed, appended, push_one, pushes, begun, opened, message}
use Rattle.buffer_push.specs.Message.OnePacket.{gone-is, pushed_room, stands_one, store-one}

-- ## Every packet of a message

-- n packets pushed from w on, whose books represent s, compared with the same packets in the rules
pub record Follows (c : Settings) (payload : List ℕ) (w : Pushing) (ps : List Packet) (n : ℕ) (s : Sender) (after : Pushing) : Type 0 where
  pub stands : Stands c after.work.state (rules.push_all c ps s)
  pub made : after.work.made ≡ w.work.made + n
  pub removed : after.work.removed ≡ w.work.removed + length (rules.gone_by c ps s)
  pub wire : after.work.wire ≡ w.work.wire + wire_sizes c (rules.gone_by c ps s)
  pub store : after.store ≡ rules.written c payload s.pushed w.work.made n w.store

module _ (c : Settings) (time m : ℕ) (payload : List ℕ) where
  abbrev packet_at : ℕ → Packet
  packet_at i = rules.packet_of c time m (length payload) i

  abbrev rest_from : ℕ → ℕ → List Packet
  rest_from i n = rules.packets_from c time m (length payload) i n

  pub follows_pushes : (n : ℕ) (w : Pushing) (s : Sender) → Stands c w.work.state s
      → Follows c payload w (rest_from w.work.made n) n s (pushes c time m payload n w)
  unfolding pushes push_one appended roomed rules.push_all rules.gone_by rules.packets_from rules.written rules.append wire_sizes
  follows_pushes zero w s S = record { stands = S; made = omega arith; removed = omega arith; wire = omega arith; store = refl }
  follows_pushes (suc n) w s S =
      let f = follows_pushes n (push_one c time m payload w) (rules.append c (packet_at w.work.made) (rules.make_room c s)) (stands_one c time m payload w s S) in
      let rest = rules.gone_by c (rest_from (suc w.work.made) n) (rules.append c (packet_at w.work.made) (rules.make_room c s)) in
      record {
        stands = f.stands;
        made = omega (arith, f.made);
        removed = f.removed ∙ rw (gone-is S) (simp length-append (omega arith));
        wire = f.wire ∙ rw (gone-is S, sizes_append c (rules.gone c s) rest) (omega arith);
        store = f.store ∙ rw (store-one c time m payload w s S, pushed_room c s, add-one s.pushed);
      }

-- ## The whole message

-- the sender once the message has its number
abbrev pub numbered : SenderCongestionControl → Sender → Sender
numbered p s = record {
  packets = s.packets;
  front = s.front;
  next = s.next;
  lost = s.lost;
  bytes = s.bytes;
  rtt = s.rtt;
  messages = (s.messages + 1) % 2 ^ 26;
  expected = s.expected;
  held = None;
  pacing = p;
  pushed = s.pushed;
}

module _ {c : Settings} {st : State} {s : Sender} (S : Stands c st s) where
  -- whatever pacing is
  pub stands-numbered : (p : SenderCongestionControl) (store : List ℕ) → Stands c (opened st store).work.state (numbered p s)
  unfolding opened begun
  stands-numbered p store = record {
    placed = S.placed;
    cap = S.cap;
    room = S.room;
    packets = S.packets;
    places = S.places;
    front = S.front;
    next = S.next;
    count = S.count;
    lost = S.lost;
    bytes = S.bytes;
    others = record {
      rtt = S.others.rtt;
      message = plus-is (2 ^ 26) st.books.message.0 1 ∙ ap (λ (n : ℕ). (n + 1) % 2 ^ 26) S.others.message;
      expected = S.others.expected;
      held = tt;
    };
    turns = S.turns;
    pushed = S.pushed;
  }

  stands-begun : (now len : ℕ) (store : List ℕ) → Stands c (opened st store).work.state (rules.begin c now len s)
  unfolding rules.begin
  stands-begun now len store = stands-numbered (after s.pacing now (count c.size len) len) store

  module _ (time now : ℕ) (payload store : List ℕ) where
    all : Follows c payload (opened st store) (rules.packets_of c time s.messages (length payload)) (count c.size (length payload))
        (rules.begin c now (length payload) s) (message c time payload st store)
    unfolding message opened
    all = by_number st.books.message.0 S.others.message
      where
        by_number : (m : ℕ) → m ≡ s.messages
            → Follows c payload (opened st store) (rules.packets_of c time s.messages (length payload)) (count c.size (length payload))
            (rules.begin c now (length payload) s) (pushes c time m payload (count c.size (length payload)) (opened st store))
        by_number m e =
            rw e
            (follows_pushes c time s.messages payload (count c.size (length payload)) (opened st store)
            (rules.begin c now (length payload) s) (stands-begun now (length payload) store))

    pub message_refines : Stands c (message c time payload st store).work.state (rules.push c time now (length payload) s)
    unfolding rules.push
    message_refines = all.stands

    -- "Answer: packets made, packets removed, wire bytes removed"
    pub message-made : (message c time payload st store).work.made ≡ count c.size (length payload)
    unfolding opened
    message-made = omega (arith, all.made)

    abbrev pub removals : List Packet
    removals = rules.gone_by c (rules.packets_of c time s.messages (length payload)) (rules.begin c now (length payload) s)

    pub message-removed : (message c time payload st store).work.removed ≡ length removals
    unfolding opened
    message-removed = omega (arith, all.removed)

    pub message-wire : (message c time payload st store).work.wire ≡ wire_sizes c removals
    unfolding opened
    message-wire = omega (arith, all.wire)

    -- the answer of the rules, made of the counts
    pub message-said : said.pushed_by c time now (length payload) s
        ≡ said.Pushed (message c time payload st store).work.made (message c time payload st store).work.removed
        (message c time payload st store).work.wire (rules.period_of (input s.pacing now (count c.size (length payload)) (length payload)))
    unfolding said.pushed_by
    message-said = rw (message-made, message-removed, message-wire)

    pub message-store : (message c time payload st store).store ≡ rules.stored c payload s store
    unfolding opened rules.stored rules.begin
    message-store = all.store
