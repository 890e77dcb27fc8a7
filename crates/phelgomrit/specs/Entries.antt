-- The host entries: the answer as numbers, and every lent element afterwards, of the call on the sender that the given
-- numbers encode.
--   books_of f ring lost                      the encoded sender with its lent areas
--   Messaged, messaged, message_by, message   a message
--   Reported, reported, nak_by, nak           a loss report
--   Ran, ran, run_by, run                     a run
--   ack, payload, reports                     these change nothing lent
pub mod Coincide
pub mod Laws
use Rattle.std.specs.Prelude.{Bool, List, ℕ, Option, Result}
use Rattle.sender.specs.SenderAndAreas.{Books, books}
use Rattle.sender.specs.Calls as Calls
use Rattle.sender.specs.Acks as Acks
use Rattle.nak.specs.Naks as Naks
use Rattle.payload.specs.Payload as Payload
use Rattle.reports.specs.Reports as Reports
use Rattle.run.specs.Runs as Runs
use Rattle.host_structs.specs.declared.senders.FlatSender.{FlatSender}
use Rattle.host_structs.specs.declared.replies.MessageAnswer.{MessageAnswer}
use Rattle.host_structs.specs.declared.acks.AckAnswer.{AckAnswer}
use Rattle.host_structs.specs.declared.replies.NakAnswer.{NakAnswer}
use Rattle.host_structs.specs.declared.replies.RunAnswer.{RunAnswer}
use Rattle.host_structs.specs.Senders.{sender_of}
use Rattle.host_structs.specs.Replies.{message_of, ack_of, nak_of, run_of}
use Rattle.rules_refusals.specs.declared.Refusal.{Refusal}
use Rattle.payload.specs.declared.Lies.{Lies}
use Rattle.reports.specs.declared.BufferReports.{BufferReports}
use Rattle.rules_numbers.specs.declared.Rtt.{Rtt}

abbrev pub books_of : FlatSender → List ℕ → List ℕ → Books
books_of f ring lost = books (sender_of f) ring lost

pub record Messaged : Type 0 where
  pub answer : MessageAnswer
  pub ring : List ℕ
  pub lost : List ℕ
  pub store : List ℕ

abbrev pub messaged : MessageAnswer → List ℕ → List ℕ → List ℕ → Messaged
messaged answer ring lost store = record { answer = answer; ring = ring; lost = lost; store = store }

abbrev pub message_by : FlatSender → Calls.Messages → Messaged
message_by f l = messaged (message_of f l.answer) l.ring l.lost l.store

unfoldable pub message : FlatSender → ℕ → ℕ → List ℕ → List ℕ → List ℕ → List ℕ → Messaged
message f time now payload ring lost store = message_by f (Calls.message (books_of f ring lost) time now payload store)

unfoldable pub ack : FlatSender → ℕ → Option ℕ → Option Rtt → List ℕ → List ℕ → AckAnswer
ack f n full rtt ring lost = ack_of f (Acks.ack (books_of f ring lost) n full rtt)

pub record Reported : Type 0 where
  pub answer : NakAnswer
  pub lost : List ℕ
  pub out : List ℕ

abbrev pub reported : NakAnswer → List ℕ → List ℕ → Reported
reported answer lost out = record { answer = answer; lost = lost; out = out }

abbrev pub nak_by : FlatSender → Naks.Naks → Reported
nak_by f l = reported (nak_of f l.answer) l.lost l.out

unfoldable pub nak : FlatSender → List ℕ → List ℕ → List ℕ → List ℕ → Reported
nak f words ring lost out = nak_by f (Naks.nak (books_of f ring lost) words out)

pub record Ran : Type 0 where
  pub answer : RunAnswer
  pub ring : List ℕ
  pub lost : List ℕ
  pub out : List ℕ

abbrev pub ran : RunAnswer → List ℕ → List ℕ → List ℕ → Ran
ran answer ring lost out = record { answer = answer; ring = ring; lost = lost; out = out }

abbrev pub run_by : FlatSender → Runs.Runs → Ran
run_by f l = ran (run_of f l.answer) l.ring l.lost l.out

unfoldable pub run : FlatSender → ℕ → ℕ → Bool → List ℕ → List ℕ → List ℕ → Ran
run f now p draining ring lost out = run_by f (Runs.run (books_of f ring lost) now p draining out)

abbrev pub payload : FlatSender → ℕ → List ℕ → List ℕ → List ℕ → Result Lies Refusal
payload f n ring lost store = Payload.payload (books_of f ring lost) n store

abbrev pub reports : FlatSender → List ℕ → List ℕ → Result BufferReports Refusal
reports f ring lost = Reports.reports (books_of f ring lost)
