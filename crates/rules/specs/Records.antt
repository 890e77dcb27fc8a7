-- Document 01, "Action record" and "Header".
--   Kind, code, is_send   "kind (1 Send, 2 resend by time, 3 resend by loss, 4 Drop, 5 wait input, 6 wait ACK)"; 1 for the sends
--   Action, encode        a record, and its "24 bytes, little-endian": each field with its lowest byte first (crate rules_numbers, Bytes)
--   sends rs              how many of the records are sends
--   again p               "retransmitted": whether the packet was sent before
--   send_record ..        the records of the rules; "Unused fields are 0"
--   header_of c n p       the 16 header bytes before the payload of p, with number n (crate encapsulate)
use Rattle.std.specs.Prelude.{Bool, true, false, List, [], ◌∷◌, ◌++◌, ℕ, zero, suc, ◌+◌, ◌*◌}
use Rattle.rules_numbers.specs.Bytes.{little}
use Rattle.rules_packets.specs.Header.{place_bits, bit, stamp, header}
use Rattle.rules.specs.Numbers.{wire}
use Rattle.rules.specs.Settings.{Settings}
use Rattle.rules.specs.Sender.{Packet}

pub data Kind : Type 0 where
  Send ByTime ByLoss Drop WaitInput WaitAck : Kind

unfoldable pub code : Kind → ℕ
code Send = 1
code ByTime = 2
code ByLoss = 3
code Drop = 4
code WaitInput = 5
code WaitAck = 6

abbrev pub is_send : Kind → ℕ
is_send Send = 1
is_send ByTime = 1
is_send ByLoss = 1
is_send Drop = 0
is_send WaitInput = 0
is_send WaitAck = 0

pub record Action : Type 0 where
  pub kind : Kind
  -- "bits 7 and 6 the place, bit 0 retransmitted as sent"
  pub flags : ℕ
  pub len : ℕ
  pub number : ℕ
  -- "message, or exclusive drop end, or unacknowledged count"
  pub word : ℕ
  -- "stamp, or window"
  pub stamp : ℕ
  pub time : ℕ

abbrev pub sends : List Action → ℕ
sends [] = 0
sends (a ∷ rs) = is_send a.kind + sends rs

unfoldable pub encode : Action → List ℕ
encode a =
    little 1 (code a.kind) ++ (little 1 a.flags ++ (little 2 a.len ++ (little 4 a.number
    ++ (little 4 a.word ++ (little 4 a.stamp ++ little 8 a.time)))))

-- "The retransmitted flag is clear on the first sending only."
unfoldable pub sent_before : ℕ → Bool
sent_before zero = false
sent_before (suc n) = true

abbrev pub again : Packet → Bool
again p = sent_before p.count

unfoldable pub send_record : Kind → ℕ → Packet → Action
send_record k n p = record {
  kind = k;
  flags = place_bits p.place * 64 + bit (again p);
  len = p.len;
  number = wire n;
  word = p.message;
  stamp = stamp p.time;
  time = p.time;
}

unfoldable pub drop_record : ℕ → ℕ → Action
drop_record first to = record { kind = Drop; flags = 0; len = 0; number = wire first; word = wire to; stamp = 0; time = 0 }

unfoldable pub wait_input : Action
wait_input = record { kind = WaitInput; flags = 0; len = 0; number = 0; word = 0; stamp = 0; time = 0 }

-- "The record says window 10,000."
unfoldable pub wait_ack : ℕ → Action
wait_ack unacknowledged = record { kind = WaitAck; flags = 0; len = 0; number = 0; word = unacknowledged; stamp = 10_000; time = 0 }

abbrev pub header_of : Settings → ℕ → Packet → List ℕ
header_of c n p = header p.place (again p) (wire n) p.message (stamp p.time) c.socket
