-- Document 01, "What contracts decide": "Every public call has a contract that determines its answer and every lent
-- byte afterwards ..; any two it admits are shown to coincide". Each contract equates the outcome, the answer with
-- every lent area at exit, to one of the definitions below; x and y are two outcomes that it admits.
--   new_coincide, message_coincide, ack_coincide, nak_coincide, run_coincide, payload_coincide, reports_coincide
use Rattle.std.specs.Prelude.{◌≡◌, Bool, List, ℕ, Option, Result}
use Rattle.std.proofs.Common.{sym, ◌∙◌}
use Rattle.rules_pacing.specs.declared.LiveBandwidthMode.{LiveBandwidthMode}
use Rattle.buffer.specs.declared.Settings.{Settings}
use Rattle.sender.specs.SenderAndAreas.{Books}
use Rattle.sender.specs.Calls.{Messages, made, message}
use Rattle.sender.specs.Acks.{ack}
use Rattle.nak.specs.Naks.{Naks, nak}
use Rattle.payload.specs.Payload.{payload}
use Rattle.reports.specs.Reports.{reports}
use Rattle.run.specs.Runs.{Runs, run}
use Rattle.rules_refusals.specs.declared.Refusal.{Refusal}
use Rattle.payload.specs.declared.Lies.{Lies}
use Rattle.buffer_ack.specs.declared.AckAction.{AckAction}
use Rattle.sender.specs.declared.Sender.{Sender}
use Rattle.reports.specs.declared.BufferReports.{BufferReports}
use Rattle.rules_numbers.specs.declared.Rtt.{Rtt}

-- two values equal to a third
both : {A : Type 0} (x y z : A) → x ≡ z → y ≡ z → x ≡ y
both x y z p q = p ∙ sym q

pub new_coincide : (c : Settings) (mode : LiveBandwidthMode) (x y : Result Sender Refusal) → x ≡ made c mode → y ≡ made c mode → x ≡ y
new_coincide c mode x y = both x y (made c mode)

module _ (g : Books) where
  pub message_coincide : (time now : ℕ) (bytes store : List ℕ) (x y : Messages) → x ≡ message g time now bytes store → y ≡ message g time now bytes store → x ≡ y
  message_coincide time now bytes store x y = both x y (message g time now bytes store)

  pub ack_coincide : (n : ℕ) (full : Option ℕ) (rtt : Option Rtt) (x y : Result (Sender × AckAction) (Sender × Refusal)) → x ≡ ack g n full rtt → y ≡ ack g n full rtt → x ≡ y
  ack_coincide n full rtt x y = both x y (ack g n full rtt)

  pub nak_coincide : (words list : List ℕ) (x y : Naks) → x ≡ nak g words list → y ≡ nak g words list → x ≡ y
  nak_coincide words list x y = both x y (nak g words list)

  pub run_coincide : (now p : ℕ) (draining : Bool) (list : List ℕ) (x y : Runs) → x ≡ run g now p draining list → y ≡ run g now p draining list → x ≡ y
  run_coincide now p draining list x y = both x y (run g now p draining list)

  pub payload_coincide : (n : ℕ) (store : List ℕ) (x y : Result Lies Refusal) → x ≡ payload g n store → y ≡ payload g n store → x ≡ y
  payload_coincide n store x y = both x y (payload g n store)

  pub reports_coincide : (x y : Result BufferReports Refusal) → x ≡ reports g → y ≡ reports g → x ≡ y
  reports_coincide x y = both x y (reports g)
