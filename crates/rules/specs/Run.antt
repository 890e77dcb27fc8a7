-- Document 01, "Run": "(now, budget p, draining) .. While budget remains, the first that applies". The rules keep
-- their numbers.
--   base, wait                              "C = mean + 4 × variance + 20,000"; the time from now to the resend, given the
--                                           sendings before
--   stamped, sent                           a packet after a sending; the buffer with that packet
--   earliest, or_here                       rule 3's choice; the number found, or else this one
--   Rule, first, rule                       which of rules 2 to 7 is the first that applies
--   Turn, Result, join                      what a turn does, what a run does, and a turn followed by the rest of the run
--   is_late, late                           rule 1: whether a packet is late, and how many it drops: none where the front is
--                                           not late
--   late_from, dropped                      how many packets go with the late ones before them; the drop
--   send, send_next, extra, flushed, obey   what rules 2 to 7 do
--   others, turn_by, turn, loop, run        one turn, the turns while budget remains, the run
use Rattle.std.specs.Prelude.{Bool, true, false, ◌&&◌, cond, List, [], ◌∷◌, ◌++◌, ℕ, zero, suc, ◌+◌, ◌-◌, ◌*◌, ◌%◌, ◌^◌, min, ltb, eqb, length, set, take, Option, Some, None}
use Rattle.rules_numbers.specs.Limits.{transmit_most}
use Rattle.rules.specs.Numbers.{wire}
use Rattle.rules.specs.Settings.{Settings, capacity, late_window}
use Rattle.rules.specs.Sender.{Packet, Sender, end, sent_of, packet, push_of, put, remove, wire_sizes}
use Rattle.rules.specs.Records.{Kind, Send, ByTime, ByLoss, Action, sends, send_record, drop_record, wait_input, wait_ack}

unfoldable pub base : Sender → ℕ
base s = s.rtt.mean + 4 * s.rtt.variance + 20_000

-- "now + C on the first transmission, else now + count × C + 10,000 ..; the addition is held at 2^30 − 1"
unfoldable pub wait : ℕ → ℕ → ℕ
wait c zero = min (2 ^ 30 - 1) c
wait c (suc n) = min (2 ^ 30 - 1) (suc n * c + 10_000)

unfoldable pub stamped : ℕ → Sender → Packet → Packet
stamped now s p = record {
  time = p.time;
  message = p.message;
  place = p.place;
  len = p.len;
  count = min transmit_most (p.count + 1);
  resend = now + wait (base s) p.count;
}

unfoldable pub sent : ℕ → Sender → ℕ → List Packet
sent now s n = set s.packets (n - s.front) (stamped now s (packet s n))

-- "the earliest resend time strictly before now; ties to the number nearer the front"; n is the first packet's number
unfoldable pub or_here : ℕ → Option ℕ → Option ℕ
or_here n None = Some n
or_here n (Some m) = Some m

unfoldable pub earliest : ℕ → ℕ → List Packet → Option ℕ
earliest now n [] = None
earliest now n (p ∷ ps) =
    let here = or_here n (earliest p.resend (suc n) ps) in
    let later = earliest now (suc n) ps in
    cond (ltb p.resend now) here later

pub data Rule : Type 0 where
  loss : ℕ → List ℕ → Rule
  due : ℕ → Rule
  window unsent flush input : Rule

-- given the loss list, the packet due, and whether the flow window is exceeded, any is unsent, and the flush applies
unfoldable pub first : List ℕ → Option ℕ → Bool → Bool → Bool → Rule
first (x ∷ xs) d over more last = loss x xs
first [] (Some n) over more last = due n
first [] None true more last = window
first [] None false true last = unsent
first [] None false false true = flush
first [] None false false false = input

-- what one turn does: its records, the sender after it, and whether the run ends
pub record Turn : Type 0 where
  pub records : List Action
  pub after : Sender
  pub ends : Bool

pub record Result : Type 0 where
  pub records : List Action
  pub after : Sender
  pub left : ℕ

abbrev pub join : Turn → Result → Result
join t r = record { records = t.records ++ r.records; after = r.after; left = r.left }

-- "Every send costs one unit, never below 0." b is the budget left; the fuel f is there only to show that this ends
unfoldable pub loop : (Sender → Turn) → ℕ → ℕ → Sender → Result
loop turn zero b s = record { records = []; after = s; left = b }
loop turn (suc f) zero s = record { records = []; after = s; left = 0 }
loop turn (suc f) (suc b) s =
    let t = turn s in
    let more = join t (loop turn f (suc b - sends t.records) t.after) in
    cond t.ends (record { records = t.records; after = t.after; left = suc b }) more

module _ (c : Settings) (now : ℕ) where
  -- "now strictly past time + window"
  abbrev pub is_late : Packet → Bool
  is_late p = ltb (p.time + late_window c) now

  -- "every packet that is late or of the same message as the latest late one": m is that one's message
  unfoldable pub late_from : ℕ → List Packet → ℕ
  late_from m [] = 0
  late_from m (p ∷ ps) =
      let late = suc (late_from p.message ps) in
      let same = suc (late_from m ps) in
      cond (is_late p) late (cond (eqb p.message m) same 0)

  unfoldable pub late : List Packet → ℕ
  late [] = 0
  late (p ∷ ps) = let some = suc (late_from p.message ps) in cond (is_late p) some 0

  -- 1. "drop from the front ..; Loss entries go too; next unsent moves past them. Costs no budget."
  unfoldable pub dropped : ℕ → Sender → Turn
  dropped zero s = record { records = []; after = s; ends = false }
  dropped (suc k) s =
      record { records = drop_record s.front (s.front + suc k) ∷ []; after = remove (suc k) s.bytes s; ends = false }

  module _ (draining : Bool) where
    unfoldable pub rule : Sender → Rule
    rule s =
        first s.lost (earliest now s.front (take (sent_of s) s.packets)) (ltb c.flow (sent_of s)) (ltb s.next (end s))
        (draining && eqb (length s.packets) 1)

    -- packet n is sent, as kind k; next unsent becomes m, the loss list l
    unfoldable pub send : Kind → ℕ → ℕ → List ℕ → Sender → Turn
    send k n m l s = record {
      records = send_record k n (packet s n) ∷ [];
      after = put s (sent now s n) s.front m l s.bytes;
      ends = false;
    }

    abbrev pub send_next : Sender → Turn
    send_next s = send Send s.next (suc s.next) s.lost s

    -- "If the one after it has a number divisible by 16 and is buffered, send it at once, also past budget and window."
    unfoldable pub extra : Turn → Turn
    extra t =
        let s = t.after in
        cond (eqb (wire s.next % 16) 0 && ltb s.next (end s))
        (record { records = t.records ++ (send_next s).records; after = (send_next s).after; ends = false })
        t

    -- "send and remove it": the byte count goes down, and the payload is held
    unfoldable pub flushed : Sender → Sender
    flushed s =
        let r = remove 1 (s.bytes - wire_sizes c (take 1 s.packets)) s in
        record {
          packets = r.packets;
          front = r.front;
          next = r.next;
          lost = r.lost;
          bytes = r.bytes;
          rtt = s.rtt;
          messages = s.messages;
          expected = s.expected;
          held = Some (record { number = s.front; slot = push_of s s.front % capacity c; len = (packet s s.front).len });
          pacing = s.pacing;
          pushed = s.pushed;
        }

    unfoldable pub obey : Rule → Sender → Turn
    -- 2. "Send the number on the loss list nearest the front, removing it there."
    obey (loss x xs) s = send ByLoss x s.next xs s
    -- 3. "Resend the packet with the earliest resend time strictly before now"
    obey (due n) s = send ByTime n s.next s.lost s
    -- 4. "wait for ACK and end"
    obey window s = record { records = wait_ack (sent_of s) ∷ []; after = s; ends = true }
    -- 5. "Send the next unsent."
    obey unsent s = extra (send_next s)
    -- 6. "Draining with one packet buffered: send and remove it."
    obey flush s = record { records = send_record Send s.front (packet s s.front) ∷ []; after = flushed s; ends = false }
    -- 7. "Wait for input and end."
    obey input s = record { records = wait_input ∷ []; after = s; ends = true }

    unfoldable pub others : Sender → Turn
    others s = obey (rule s) s

    unfoldable pub turn_by : ℕ → Sender → Turn
    turn_by (suc k) s = dropped (suc k) s
    turn_by zero s = others s

    unfoldable pub turn : Sender → Turn
    turn s = turn_by (late s.packets) s

    -- the fuel suffices: rule 1 costs nothing but applies at most once, any other turn costs a unit or ends the run
    unfoldable pub run : ℕ → Sender → Result
    run p s = loop turn (suc p) p s
