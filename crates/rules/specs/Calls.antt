-- The calls, one after the other. Document 01, "Refusal numbers": "All stays as before; 11 alone keeps a new RTT."
--   Call                     a call with its arguments
--   Said, Answer             what an accepted call answers; the verdict, that answer and the sender afterwards
--   verdict_of               whether a call is accepted, or why it is refused
--   said_by, after           what an accepted call answers (pushed_by: a message), and the sender after it
--   left k s r, with_rtt     the sender after a refusal; the sender with the RTT of an ACK
--   answer c k s             a call's answer (answer_by: given the verdict)
--   calls, answers           the sender after a list of calls, refused ones included; all of their answers
--   store_after, stores      the store after one call, and after a list: only an accepted message writes (store_by: given
--                            the verdict)
--   records a, units k a     the records of an answer; the units that an accepted run got (records_of, units_by)
--   all_records, all_units   those of a list of calls
use Rattle.std.specs.Prelude.{Bool, cond, List, [], ◌++◌, ◌∷◌, ℕ, ◌+◌, eqb, length, Option, Ok, Err}
use Rattle.rules_refusals.specs.declared.Refusal.{Refusal}
use Rattle.rules_refusals.specs.Table.{number_of}
use Rattle.rules_packets.specs.Split.{count}
use Rattle.rules_numbers.specs.declared.Rtt.{Rtt}
use Rattle.rules.specs.Ack.{ack_of, acknowledge, received, recovered, take_rtt}
use Rattle.rules.specs.Losses.{LossRun, items_of, joined, report, runs_of, words_of}
use Rattle.rules.specs.Message.{begin, gone, gone_by, packets_of, period_of, push, stored}
use Rattle.rules.specs.Numbers.{wire}
use Rattle.rules.specs.Records.{Action}
use Rattle.rules.specs.Refusals.{ack_verdict, message_verdict, nak_verdict, payload_verdict, run_verdict}
use Rattle.rules.specs.Reports.{Lies, payload_of}
use Rattle.rules.specs.Run.{run}
use Rattle.rules.specs.Sender.{Sender, wire_sizes}
use Rattle.rules.specs.Settings.{Settings}
use Rattle.rules_pacing.specs.Pacing as Pacing
use Rattle.rules_refusals.specs.Verdict.{Verdict, accepted}

pub data Call : Type 0 where
  message : (time now : ℕ) → (payload : List ℕ) → Call
  ack : (number : ℕ) → (full : Option ℕ) → (rtt : Option Rtt) → Call
  nak : (words : List ℕ) → (room : ℕ) → Call
  runs : (now budget : ℕ) → (draining : Bool) → (room : ℕ) → Call
  payload : (number : ℕ) → Call

pub data Said : Type 0 where
  Nothing : Said
  -- "packets made, packets removed, wire bytes removed .., and any new period"
  Pushed : (made removed wire : ℕ) → (period : Option ℕ) → Said
  -- "Both counts and the full number are returned."
  Acked : (received recovered : ℕ) → (full : Option ℕ) → Said
  Reported : List LossRun → Said
  -- the records, and the budget left
  Ran : List Action → ℕ → Said
  Found : Option Lies → Said

pub record Answer : Type 0 where
  pub verdict : Verdict
  pub said : Said
  pub after : Sender

-- 11 alone keeps the RTT that came with the ACK
unfoldable pub with_rtt : Call → Sender → Sender
with_rtt (message time now bytes) s = s
with_rtt (ack number full rtt) s = take_rtt rtt s
with_rtt (nak words room) s = s
with_rtt (runs now p draining room) s = s
with_rtt (payload number) s = s

unfoldable pub left : Call → Sender → Refusal → Sender
left k s r = cond (eqb (number_of r) 11) (with_rtt k s) s

module _ (c : Settings) where
  unfoldable pub verdict_of : Call → Sender → Verdict
  verdict_of (message time now bytes) s = message_verdict c time now (length bytes) s
  verdict_of (ack number full rtt) s = ack_verdict c number full rtt s
  verdict_of (nak words room) s = nak_verdict c words room s
  verdict_of (runs now p draining room) s = run_verdict c now p room s
  verdict_of (payload number) s = payload_verdict c number s

  unfoldable pub after : Call → Sender → Sender
  after (message time now bytes) s = push c time now (length bytes) s
  after (ack number full rtt) s = acknowledge c (ack_of s number) full (take_rtt rtt s)
  after (nak words room) s = report (items_of (words_of words)) s
  after (runs now p draining room) s = (run c now draining p s).after
  after (payload number) s = s

  unfoldable pub pushed_by : ℕ → ℕ → ℕ → Sender → Said
  pushed_by time now n s =
      let gone = gone_by c (packets_of c time s.messages n) (begin c now n s) in
      Pushed (count c.size n) (length gone) (wire_sizes c gone) (period_of (Pacing.input s.pacing now (count c.size n) n))

  unfoldable pub said_by : Call → Sender → Said
  said_by (message time now bytes) s = pushed_by time now (length bytes) s
  said_by (ack number full rtt) s = Acked (received (ack_of s number) s) (recovered (ack_of s number) s) full
  said_by (nak words room) s = Reported (joined (runs_of s (items_of (words_of words))))
  said_by (runs now p draining room) s = let r = run c now draining p s in Ran r.records r.left
  said_by (payload number) s = Found (payload_of c s number)

  unfoldable pub answer_by : Verdict → Call → Sender → Answer
  answer_by (Ok _) k s = record { verdict = accepted; said = said_by k s; after = after k s }
  answer_by (Err r) k s = record { verdict = Err r; said = Nothing; after = left k s r }

  unfoldable pub answer : Call → Sender → Answer
  answer k s = answer_by (verdict_of k s) k s

  unfoldable pub calls : List Call → Sender → Sender
  calls [] s = s
  calls (k ∷ ks) s = calls ks (answer k s).after

  unfoldable pub answers : List Call → Sender → List Answer
  answers [] s = []
  answers (k ∷ ks) s = answer k s ∷ answers ks (answer k s).after

  unfoldable pub store_by : Verdict → Call → Sender → List ℕ → List ℕ
  store_by (Ok _) (message time now bytes) s store = stored c bytes s store
  store_by (Ok _) (ack number full rtt) s store = store
  store_by (Ok _) (nak words room) s store = store
  store_by (Ok _) (runs now p draining room) s store = store
  store_by (Ok _) (payload number) s store = store
  store_by (Err r) k s store = store

  unfoldable pub store_after : Call → Sender → List ℕ → List ℕ
  store_after k s store = store_by (verdict_of k s) k s store

  unfoldable pub stores : List Call → Sender → List ℕ → List ℕ
  stores [] s store = store
  stores (k ∷ ks) s store = stores ks (answer k s).after (store_after k s store)

unfoldable pub records_of : Said → List Action
records_of Nothing = []
records_of (Pushed made removed wire period) = []
records_of (Acked taken back full) = []
records_of (Reported rs) = []
records_of (Ran rs budget) = rs
records_of (Found lies) = []

unfoldable pub units_by : Verdict → Call → ℕ
units_by (Ok _) (message time now bytes) = 0
units_by (Ok _) (ack number full rtt) = 0
units_by (Ok _) (nak words room) = 0
units_by (Ok _) (runs now p draining room) = p
units_by (Ok _) (payload number) = 0
units_by (Err r) k = 0

abbrev pub records : Answer → List Action
records a = records_of a.said

abbrev pub units : Call → Answer → ℕ
units k a = units_by a.verdict k

module _ (c : Settings) where
  unfoldable pub all_records : List Call → Sender → List Action
  all_records [] s = []
  all_records (k ∷ ks) s = records (answer c k s) ++ all_records ks (answer c k s).after

  unfoldable pub all_units : List Call → Sender → ℕ
  all_units [] s = 0
  all_units (k ∷ ks) s = units k (answer c k s) + all_units ks (answer c k s).after
