-- Document 01, "What contracts decide": "any two it admits are shown to coincide", for each of the eighteen host
-- entries. Each contract equates the outcome, the answer with every lent element at exit, to one of the definitions
-- below; x and y are two outcomes that it admits.
use Rattle.std.specs.Prelude.{◌≡◌, Bool, List, ℕ}
use Rattle.std.proofs.Common.{sym, ◌∙◌}
use Rattle.rules_packets.specs.Header.{header}
use Rattle.rules_numbers.specs.declared.Rtt.{Rtt}
use Rattle.rules_timers.specs.declared.Timers.{Timers}
use Rattle.rules_timers.specs.Timers as T
use Rattle.rules_timers.specs.Wake.{next_timer}
use Rattle.rules_timers.specs.Checks.{check_snd, check_full_ack, check_nak, check_statistics, check_peer_idle_timeout}
use Rattle.host_timers.specs.declared.TimersAnswer.{TimersAnswer}
use Rattle.host_timers.specs.declared.NanosecondsAnswer.{NanosecondsAnswer}
use Rattle.host_timers.specs.TimersAnswers.{nanoseconds, blanks, timers_set, timers_checked, next_message}
use Rattle.buffer.specs.declared.Settings.{Settings}
use Rattle.sender.specs.Calls.{made}
use Rattle.host_structs.specs.declared.senders.FlatSender.{FlatSender}
use Rattle.host_structs.specs.declared.acks.AckAnswer.{AckAnswer}
use Rattle.host_structs.specs.declared.starts.NewAnswer.{NewAnswer}
use Rattle.host_structs.specs.declared.questions.PayloadAnswer.{PayloadAnswer}
use Rattle.host_structs.specs.declared.questions.ReportsAnswer.{ReportsAnswer}
use Rattle.host_structs.specs.Senders.{mode_of}
use Rattle.host_structs.specs.Replies.{new_of, payload_of, reports_of, full_of, rtt_of}
use Rattle.phelgomrit.specs.Entries.{Messaged, message, ack, Reported, nak, Ran, run, payload, reports}
use Rattle.phelgomrit.specs.Packet.{place_of}

-- x and y coincide if both are z
abbrev Coincide : {A : Type 0} → A → Type 0
Coincide {A} z = (x y : A) → x ≡ z → y ≡ z → x ≡ y

both : {A : Type 0} (z : A) → Coincide z
both z x y p q = p ∙ sym q

pub new_coincide : (c : Settings) (mode rate overhead : ℕ) → Coincide {A = NewAnswer} (new_of (made c (mode_of mode rate overhead)))
new_coincide c mode rate overhead = both (new_of (made c (mode_of mode rate overhead)))

pub header_coincide : (place : ℕ) (again : Bool) (number m stamp id : ℕ) → Coincide {A = List ℕ} (header (place_of place) again number m stamp id)
header_coincide place again number m stamp id = both (header (place_of place) again number m stamp id)

module _ (f : FlatSender) (ring lost : List ℕ) where
  pub message_coincide : (time now : ℕ) (bytes store : List ℕ) → Coincide {A = Messaged} (message f time now bytes ring lost store)
  message_coincide time now bytes store = both (message f time now bytes ring lost store)

  pub ack_coincide : (n : ℕ) (full : Bool) (k : ℕ) (measured : Bool) (r : Rtt) → Coincide {A = AckAnswer} (ack f n (full_of full k) (rtt_of measured r) ring lost)
  ack_coincide n full k measured r = both (ack f n (full_of full k) (rtt_of measured r) ring lost)

  pub nak_coincide : (words out : List ℕ) → Coincide {A = Reported} (nak f words ring lost out)
  nak_coincide words out = both (nak f words ring lost out)

  pub run_coincide : (now p : ℕ) (draining : Bool) (out : List ℕ) → Coincide {A = Ran} (run f now p draining ring lost out)
  run_coincide now p draining out = both (run f now p draining ring lost out)

  pub payload_coincide : (n : ℕ) (store : List ℕ) → Coincide {A = PayloadAnswer} (payload_of (payload f n ring lost store))
  payload_coincide n store = both (payload_of (payload f n ring lost store))

  pub reports_coincide : Coincide {A = ReportsAnswer} (reports_of (reports f ring lost))
  reports_coincide = both (reports_of (reports f ring lost))

pub timers-new_coincide : (now statistics idle : ℕ) → Coincide {A = TimersAnswer} (timers_set blanks (T.new now statistics idle))
timers-new_coincide now statistics idle = both (timers_set blanks (T.new now statistics idle))

module _ (ts : Timers) (now : ℕ) where
  pub next-timer_coincide : (packets known : Bool) (time unacked : ℕ) → Coincide {A = NanosecondsAnswer} (nanoseconds (next_timer ts now packets (next_message known time) unacked))
  next-timer_coincide packets known time unacked = both (nanoseconds (next_timer ts now packets (next_message known time) unacked))

  pub check-snd_coincide : Coincide {A = TimersAnswer} (timers_checked ts (check_snd ts now))
  check-snd_coincide = both (timers_checked ts (check_snd ts now))

  pub check-full-ack_coincide : Coincide {A = TimersAnswer} (timers_checked ts (check_full_ack ts now))
  check-full-ack_coincide = both (timers_checked ts (check_full_ack ts now))

  pub check-nak_coincide : Coincide {A = TimersAnswer} (timers_checked ts (check_nak ts now))
  check-nak_coincide = both (timers_checked ts (check_nak ts now))

  pub check-statistics_coincide : Coincide {A = TimersAnswer} (timers_checked ts (check_statistics ts now))
  check-statistics_coincide = both (timers_checked ts (check_statistics ts now))

  pub check-idle_coincide : Coincide {A = TimersAnswer} (timers_checked ts (check_peer_idle_timeout ts now))
  check-idle_coincide = both (timers_checked ts (check_peer_idle_timeout ts now))

  pub reset-exp_coincide : Coincide {A = TimersAnswer} (timers_set ts (T.reset_exp ts now))
  reset-exp_coincide = both (timers_set ts (T.reset_exp ts now))

module _ (ts : Timers) where
  pub update-snd-period_coincide : (period : ℕ) → Coincide {A = TimersAnswer} (timers_set ts (T.update_snd_period ts period))
  update-snd-period_coincide period = both (timers_set ts (T.update_snd_period ts period))

  pub update-rtt_coincide : (r : Rtt) → Coincide {A = TimersAnswer} (timers_set ts (T.update_rtt ts r))
  update-rtt_coincide r = both (timers_set ts (T.update_rtt ts r))
