-- The answers of the calls as numbers. Document 01, "What each place should look like": "Where an answer is an enum, a
-- definition states this paper's number and values for each of its cases."
--   refusal n a b c, none              a refusal from its numbers; no refusal: all 0
--   refused_of r                       the refusal's number and its values (rules_refusals, Table)
--   blank                              a sender of zeros, for a refused `new`
--   new_of, message_of, ack_of, nak_of, run_of, payload_of, reports_of
--                                   the answers; a refused call returns the numbers f it was given
--   period_from p                      a new period, 0 for none
--   full_of, rtt_of                    an ACK's full number and round-trip time, if it has them
--   ack_answer, answer_by, action_of   an ACK's answer from its fields; the answer to an accepted ACK
--   ack_left f s n                     "11 alone keeps a new RTT"
use Rattle.std.specs.Prelude.{Bool, true, false, cond, ℕ, eqb, get_or, Option, Some, None, Result, Ok, Err}
use Rattle.rules_numbers.specs.declared.Rtt.{Rtt}
use Rattle.rules_pacing.specs.Kept as Pacing
use Rattle.rules_refusals.specs.Table.{number_of, values_of}
use Rattle.rules_refusals.specs.declared.Refusal.{Refusal}
use Rattle.buffer_ack.specs.declared.AckAction.{AckAction}
use Rattle.sender.specs.declared.Sender.{Sender}
use Rattle.host_structs.specs.declared.senders.FlatSender.{FlatSender}
use Rattle.host_structs.specs.declared.refused.Refused.{Refused}
use Rattle.host_structs.specs.declared.starts.NewAnswer.{NewAnswer}
use Rattle.host_structs.specs.declared.replies.MessageAnswer.{MessageAnswer}
use Rattle.host_structs.specs.declared.acks.AckAnswer.{AckAnswer}
use Rattle.host_structs.specs.declared.replies.NakAnswer.{NakAnswer}
use Rattle.host_structs.specs.declared.replies.RunAnswer.{RunAnswer}
use Rattle.host_structs.specs.declared.questions.PayloadAnswer.{PayloadAnswer}
use Rattle.host_structs.specs.declared.questions.ReportsAnswer.{ReportsAnswer}
use Rattle.host_structs.specs.Senders.{flat_from}
use Rattle.sender.specs.declared.Answer.{Answer}
use Rattle.payload.specs.declared.Lies.{Lies}
use Rattle.reports.specs.declared.BufferReports.{BufferReports}

abbrev pub refusal : ℕ → ℕ → ℕ → ℕ → Refused
refusal number first second third = record { number = number; first = first; second = second; third = third }

abbrev pub none : Refused
none = refusal 0 0 0 0

-- the values in the table's order
unfoldable pub refused_of : Refusal → Refused
refused_of r = refusal (number_of r) (get_or (values_of r) 0 0) (get_or (values_of r) 1 0) (get_or (values_of r) 2 0)

abbrev pub blank : FlatSender
blank = record {
  settings = record { first = 0; size = 0; buffer = 0; flow = 0; latency = 0; overhead = 0; socket = 0 };
  books = record {
    ring = record { cap = 0; slot = 0; len = 0 };
    front = 0;
    sent = 0;
    lost = 0;
    bytes = 0;
    rtt = record { mean = 0; variance = 0 };
    expected = 0;
    held = record { held = 0; number = 0; slot = 0; len = 0 };
    message = 0;
  };
  pacing = record { mode = 0; begun = 0; rate = 0; overhead = 0; next = 0; packets = Pacing.none; bytes = Pacing.none };
}

unfoldable pub new_of : Result Sender Refusal → NewAnswer
new_of (Ok s) = record { refusal = none; sender = flat_from s }
new_of (Err r) = record { refusal = refused_of r; sender = blank }

abbrev pub period_from : Option ℕ → ℕ
period_from None = 0
period_from (Some p) = p

unfoldable pub message_of : FlatSender → Result (Sender × Answer) Refusal → MessageAnswer
message_of f (Ok (s, a)) =
    record { refusal = none; made = a.made; removed = a.removed; bytes = a.bytes; period = period_from a.period; sender = flat_from s }
message_of f (Err r) = record { refusal = refused_of r; made = 0; removed = 0; bytes = 0; period = 0; sender = f }

abbrev pub full_of : Bool → ℕ → Option ℕ
full_of true n = Some n
full_of false n = None

abbrev pub rtt_of : Bool → Rtt → Option Rtt
rtt_of true r = Some r
rtt_of false r = None

abbrev pub ack_answer : Refused → ℕ → ℕ → Bool → ℕ → FlatSender → AckAnswer
ack_answer why received recovered given n f =
    record { refusal = why; received = received; recovered = recovered; full = given; full_number = n; sender = f }

abbrev pub answer_by : Sender → AckAction → Option ℕ → AckAnswer
answer_by s a None = ack_answer none a.received a.recovered false 0 (flat_from s)
answer_by s a (Some n) = ack_answer none a.received a.recovered true n (flat_from s)

abbrev pub action_of : Sender → AckAction → AckAnswer
action_of s a = answer_by s a a.send_ack2

unfoldable pub ack_left : FlatSender → Sender → ℕ → FlatSender
ack_left f s n = cond (eqb n 11) (flat_from s) f

unfoldable pub ack_of : FlatSender → Result (Sender × AckAction) (Sender × Refusal) → AckAnswer
ack_of f (Ok (s, a)) = action_of s a
ack_of f (Err (s, r)) = ack_answer (refused_of r) 0 0 false 0 (ack_left f s (refused_of r).number)

unfoldable pub nak_of : FlatSender → Result (Sender × ℕ) Refusal → NakAnswer
nak_of f (Ok (s, runs)) = record { refusal = none; runs = runs; sender = flat_from s }
nak_of f (Err r) = record { refusal = refused_of r; runs = 0; sender = f }

unfoldable pub run_of : FlatSender → Result (Sender × ℕ × ℕ) Refusal → RunAnswer
run_of f (Ok (s, records, left)) = record { refusal = none; records = records; left = left; sender = flat_from s }
run_of f (Err r) = record { refusal = refused_of r; records = 0; left = 0; sender = f }

unfoldable pub payload_of : Result Lies Refusal → PayloadAnswer
payload_of (Ok l) = record { refusal = none; place = l.place; len = l.len }
payload_of (Err r) = record { refusal = refused_of r; place = 0; len = 0 }

unfoldable pub reports_of : Result BufferReports Refusal → ReportsAnswer
reports_of (Ok t) =
    record {
      refusal = none;
      is_flushed = t.is_flushed;
      has_packets_to_send = t.has_packets_to_send;
      len = t.len;
      len_bytes = t.len_bytes;
      duration = t.duration;
    }
reports_of (Err r) =
    record { refusal = refused_of r; is_flushed = false; has_packets_to_send = false; len = 0; len_bytes = 0; duration = 0 }
