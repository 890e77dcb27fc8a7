-- Document 01, "ACK", on the books and the lent areas. "First to next unsent, inclusive. RTT is taken over; then the
-- full number is tested .. Loss entries below the ACK go (`recovered`), then packets below it (`received`). Both counts
-- and the full number are returned." "All stays as before; 11 alone keeps a new RTT."
--   with b rtt e                    b with another round-trip time and expected full number
--   ack_of n st                     how far the ACK's number lies after the front: the number of packets acknowledged
--   judge len front sent n          refusals 9 and 10, from the number of packets, the front and how many are sent
--   judge_on n st                   the same, on the books
--   take_rtt rtt st                 the round-trip time taken over
--   acknowledged c d full st        d packets acknowledged
--   refused, done, update           a refused ACK, an accepted one; the call. The lent areas are only read
--   verdict_of, books_of, said_of   an answer's verdict, its books, and its values, as in the rules
pub mod Laws
pub mod Stands
use Rattle.std.specs.Prelude.{ℕ, ◌-◌, ltb, eqb, take, Option, Result, Ok, Err}
use Rattle.rules_numbers.specs.declared.SeqNumber.{SeqNumber}
use Rattle.rules_numbers.specs.Modular.{seqs, plus, dist}
use Rattle.rules_refusals.specs.declared.Refusal.{Refusal}
use Rattle.rules_refusals.specs.declared.Refusal.TheVariants.{Empty, InvalidAck}
use Rattle.rules_refusals.specs.Verdict.{Verdict, accepted, when, answer}
use Rattle.rules_numbers.specs.declared.Rtt.{Rtt}
use Rattle.rules.specs.Settings.{Settings}
use Rattle.rules.specs.Sender.{wire_sizes}
use Rattle.rules.specs.Ack.{given, expect}
use Rattle.rules.specs.Refusals.{full_verdict}
use Rattle.rules.specs.Calls as rules
use Rattle.buffer.specs.declared.SendBuffer.{SendBuffer}
use Rattle.buffer.specs.State.{State, state, view}
use Rattle.buffer.specs.Removal.{removed, going}
use Rattle.buffer_ack.specs.declared.AckAction.{AckAction}

abbrev pub with : SendBuffer → Rtt → ℕ → SendBuffer
with b rtt expected = record {
  ring = b.ring;
  front = b.front;
  sent = b.sent;
  lost = b.lost;
  bytes = b.bytes;
  rtt = rtt;
  message = b.message;
  expected = expected;
  flushed = b.flushed;
}

abbrev pub ack_of : SeqNumber → State → ℕ
ack_of n st = dist seqs st.books.front.0 n.0

unfoldable pub judge : ℕ → SeqNumber → ℕ → SeqNumber → Verdict
judge len front sent n =
    when (eqb len 0) Empty
    (when (ltb sent (dist seqs front.0 n.0)) (InvalidAck n front (record { 0 = plus seqs front.0 sent })) accepted)

abbrev pub judge_on : SeqNumber → State → Verdict
judge_on n st = judge st.books.ring.len st.books.front st.books.sent n

abbrev pub take_rtt : Option Rtt → State → State
take_rtt rtt st = state (with st.books (given rtt st.books.rtt) st.books.expected) st.ring st.lost

unfoldable pub acknowledged : Settings → ℕ → Option ℕ → State → State
acknowledged c d full st =
    let b = removed d (st.books.bytes - wire_sizes c (take d (view st))) st in
    state (with b.books b.books.rtt (expect full b.books.expected)) b.ring b.lost

abbrev pub refused : State → Refusal → Result (SendBuffer × AckAction) (SendBuffer × Refusal)
refused st r = Err (st.books, r)

unfoldable pub done : Settings → ℕ → Option ℕ → State → Result (SendBuffer × AckAction) (SendBuffer × Refusal)
done c d full st = Ok ((acknowledged c d full st).books, record { received = d; recovered = going d st; send_ack2 = full })

unfoldable pub update : Settings → SeqNumber → Option ℕ → Option Rtt → State → Result (SendBuffer × AckAction) (SendBuffer × Refusal)
update c n full rtt st =
    let taken = take_rtt rtt st in
    answer (refused st) (judge_on n st)
    (answer (refused taken) (full_verdict full taken.books.expected) (done c (ack_of n taken) full taken))

abbrev pub verdict_of : Result (SendBuffer × AckAction) (SendBuffer × Refusal) → Verdict
verdict_of (Ok (b, a)) = accepted
verdict_of (Err (b, r)) = Err r

abbrev pub books_of : Result (SendBuffer × AckAction) (SendBuffer × Refusal) → SendBuffer
books_of (Ok (b, a)) = b
books_of (Err (b, r)) = b

abbrev pub said_of : Result (SendBuffer × AckAction) (SendBuffer × Refusal) → rules.Said
said_of (Ok (b, a)) = rules.Acked a.received a.recovered a.send_ack2
said_of (Err (b, r)) = rules.Nothing
