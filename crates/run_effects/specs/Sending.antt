-- What each rule of a run does to the lent areas. Document 01, "Run", rules 1 to 7. Packets (by `view`) and records are
-- those of the rules; a packet is given by its index i from the front.
--   base_of, stamped                        "C = mean + 4 × variance + 20,000"; an entry after a sending
--   packet_at, number_at                    packet i, and its number
--   sent_words                              the ring's words with packet i sent
--   Turned, idle                            what one turn does: the state after it, its records, whether the run ends; a
--                                           turn that does nothing
--   dropped, loss_turn, due_turn, window_turn, unsent_turn, flush_turn, input_turn   rules 1 to 7
--   next_turn, is_sixteenth, sixteen_turn   rule 5's two sendings, and the test of the second
--   sent_as                                 packet i is sent
--   nearest, popped                         the number on the loss list nearest the front, its last; the list without it
--   holding                                 the books with the flushed packet
--   written                                 records written to the list, "24 bytes" each: "Bytes after the last record
--                                           stay."
--   HasRoom, SameList, Pushed               the lent list: its room, that it is the same one, a record written behind the others
--   Acted, Wrote, Acts                      the code did what a turn does
pub mod Laws
pub mod Rules
pub mod Stands
pub mod Unsent
use Rattle.std.specs.Prelude.{◌≡◌, Bool, true, false, ◌&&◌, cond, List, [], ◌∷◌, ◌++◌, ℕ, suc, ◌+◌, ◌-◌, ◌*◌, ◌%◌, ◌≤◌, min, ltb, eqb, length, take, get_or, Some}
use Rattle.std.proofs.Math.Seq.{paste}
use Rattle.rules_numbers.specs.declared.SeqNumber.{SeqNumber}
use Rattle.rules_numbers.specs.Modular.{seqs, plus, dist}
use Rattle.rules_numbers.specs.declared.Rtt.{Rtt}
use Rattle.ring.specs.declared.Entry.{Entry}
use Rattle.ring.specs.Entry.{read_e, write_e}
use Rattle.ring.specs.Ring.{slot_of}
use Rattle.rules.specs.Settings.{Settings}
use Rattle.rules.specs.Sender.{Packet, nothing, wire_sizes}
use Rattle.rules.specs.Records.{Kind, Send, ByTime, ByLoss, Action, encode, send_record, drop_record, wait_input, wait_ack}
use Rattle.rules.specs.Run.{wait}
use Rattle.buffer.specs.declared.SendBuffer.{SendBuffer}
use Rattle.buffer.specs.State.{State, state, view, put, with_others, flushed_packet}
use Rattle.buffer.specs.Removal.{removed}
use Rattle.run_effects.specs.declared.Records.{Records}

abbrev pub base_of : Rtt → ℕ
base_of r = r.mean + 4 * r.variance + 20_000

unfoldable pub stamped : ℕ → Rtt → Entry → Entry
stamped now r e = record {
  time = e.time;
  message = e.message;
  place = e.place;
  len = e.len;
  count = min 65_535 (e.count + 1);
  resend = now + wait (base_of r) e.count;
}

-- packet i, and its number
abbrev pub packet_at : State → ℕ → Packet
packet_at st i = get_or (view st) i nothing

abbrev pub number_at : State → ℕ → ℕ
number_at st i = st.books.front.0 + i

-- the ring's words with packet i sent
abbrev pub sent_words : ℕ → ℕ → SendBuffer → List ℕ → List ℕ
sent_words now i b ring =
    let slot = slot_of b.ring i in
    write_e ring slot (stamped now b.rtt (read_e ring slot))

pub record Turned : Type 0 where
  pub state : State
  pub records : List Action
  pub ends : Bool

-- 1. "drop from the front ..; Loss entries go too; next unsent moves past them."
unfoldable pub dropped : ℕ → State → Turned
dropped k st = record {
  state = removed k st.books.bytes st;
  records = drop_record st.books.front.0 (number_at st k) ∷ [];
  ends = false;
}

-- packet i is sent, as kind k; `sent` packets are then sent
unfoldable pub sent_as : Kind → ℕ → ℕ → ℕ → State → Turned
sent_as k now i sent st =
    let b = st.books in
    record {
      state = record { books = put b b.ring b.front.0 sent b.lost b.bytes; ring = sent_words now i b st.ring; lost = st.lost };
      records = send_record k (number_at st i) (packet_at st i) ∷ [];
      ends = false;
    }

abbrev pub nearest : State → ℕ
nearest st = get_or st.lost (st.books.lost - 1) 0

unfoldable pub popped : State → State
popped st =
    let b = st.books in
    record { books = put b b.ring b.front.0 b.sent (b.lost - 1) b.bytes; ring = st.ring; lost = st.lost }

-- 2. "Send the number on the loss list nearest the front, removing it there."
unfoldable pub loss_turn : ℕ → State → Turned
loss_turn now st = sent_as ByLoss now (dist seqs st.books.front.0 (nearest st)) st.books.sent (popped st)

-- 3. "Resend the packet with the earliest resend time strictly before now"
abbrev pub due_turn : ℕ → ℕ → State → Turned
due_turn now i st = sent_as ByTime now i st.books.sent st

-- 4. "wait for ACK and end"
unfoldable pub window_turn : State → Turned
window_turn st = record { state = st; records = wait_ack st.books.sent ∷ []; ends = true }

-- 5. "Send the next unsent. If the one after it has a number divisible by 16 and is buffered, send it at once, also
-- past budget and window."
abbrev pub next_turn : ℕ → State → Turned
next_turn now st = sent_as Send now st.books.sent (st.books.sent + 1) st

abbrev pub is_sixteenth : State → Bool
is_sixteenth st = eqb (plus seqs st.books.front.0 st.books.sent % 16) 0 && ltb st.books.sent st.books.ring.len

abbrev pub idle : State → Turned
idle st = record { state = st; records = []; ends = false }

unfoldable pub sixteen_turn : ℕ → State → Turned
sixteen_turn now st = let t = next_turn now st in cond (is_sixteenth st) t (idle st)

unfoldable pub unsent_turn : ℕ → State → Turned
unsent_turn now st =
    let t = next_turn now st in
    let u = sixteen_turn now t.state in
    record { state = u.state; records = t.records ++ u.records; ends = false }

-- 6. "Draining with one packet buffered: send and remove it.": the byte count goes down, and the payload is held
abbrev pub holding : SeqNumber → ℕ → ℕ → SendBuffer → SendBuffer
holding number slot len b = with_others b b.rtt b.message b.expected (Some (flushed_packet number slot len))

unfoldable pub flush_turn : Settings → State → Turned
flush_turn c st =
    let r = removed 1 (st.books.bytes - wire_sizes c (take 1 (view st))) st in
    record {
      state = record { books = holding st.books.front st.books.ring.slot (packet_at st 0).len r.books; ring = r.ring; lost = r.lost };
      records = send_record Send (number_at st 0) (packet_at st 0) ∷ [];
      ends = false;
    }

-- 7. "Wait for input and end."
unfoldable pub input_turn : State → Turned
input_turn st = record { state = st; records = wait_input ∷ []; ends = true }

-- the records from index n of the list on; every byte behind them stays
unfoldable pub written : ℕ → List Action → List ℕ → List ℕ
written n [] out = out
written n (a ∷ rs) out = written (suc n) rs (paste out (n * 24) (encode a) 24)

-- the code did the turn tn, with n records in the list before
pub record Acted (tn : State → Turned) (before : State) (n : ℕ) (out : List ℕ) (after : State) (m : ℕ) (left : List ℕ) : Type 0 where
  pub state : after ≡ (tn before).state
  pub count : m ≡ n + length (tn before).records
  pub list : left ≡ written n (tn before).records out

-- there is room for k more records
abbrev pub HasRoom : ℕ → Records → Type 0
HasRoom k r = r.count * 24 + k * 24 ≤ length r.list.now

-- the same lent list: what is written here stands where it was lent
pub record SameList (a b : Records) : Type 0 where
  pub name : b.list.ghost_name ≡ a.list.ghost_name
  pub long : length b.list.now ≡ length a.list.now

-- one record more; every other byte stays
pub record Pushed (before : Records) (a : Action) (after : Records) : Type 0 where
  pub same : SameList before after
  pub count : after.count ≡ before.count + 1
  pub list : after.list.now ≡ paste before.list.now (before.count * 24) (encode a) 24

-- `Acted` with the lent list
pub record Wrote (tn : State → Turned) (before : State) (given : Records) (after : State) (left : Records) : Type 0 where
  pub acted : Acted tn before given.count given.list.now after left.count left.list.now
  pub same : SameList given left

-- the same for code that doesn't see the loss list's area
pub record Acts (tn : State → Turned) (b : SendBuffer) (ring : List ℕ) (given : Records) (after : SendBuffer) (words : List ℕ) (left : Records) : Type 0 where
  pub is : (lost : List ℕ) → Wrote tn (state b ring lost) given (state after words lost) left
