-- The meaning of each number, computed from the definitions. This catches errors that definition and code have in
-- common.
use Rattle.std.specs.Prelude.{◌≡◌, refl, true, false, List, [], ◌∷◌, map, ℕ, Some, None, Ok, Err}
use Rattle.rules_numbers.specs.declared.SeqNumber.{SeqNumber}
use Rattle.rules_pacing.specs.declared.LiveBandwidthMode.TheVariants.{Input, Estimated, Max, Unlimited}
use Rattle.rules_refusals.specs.declared.Refusal.TheVariants.{BadState, InvalidAck, StaleFullAck, BadNak}
use Rattle.sender.specs.declared.Sender.{Sender}
use Rattle.host_structs.specs.declared.senders.FlatSender.{FlatSender}
use Rattle.host_structs.specs.declared.replies.MessageAnswer.{MessageAnswer}
use Rattle.host_structs.specs.declared.acks.AckAnswer.{AckAnswer}
use Rattle.host_structs.specs.declared.questions.ReportsAnswer.{ReportsAnswer}
use Rattle.host_structs.specs.Senders.{flushed_of, next_of, mode_of, code_from}
use Rattle.buffer.specs.State.{flushed_packet}
use Rattle.host_structs.specs.Replies.{refusal, none, refused_of, message_of, full_of, rtt_of, ack_of, nak_of, run_of, payload_of, reports_of}

abbrev number : ℕ → SeqNumber
number n = record { 0 = n }

-- the answer to an accepted message, and to an accepted ACK
abbrev said_of : MessageAnswer → List ℕ
said_of a = a.made ∷ a.removed ∷ a.bytes ∷ a.period ∷ []

abbrev counts_of : AckAnswer → List ℕ
counts_of a = a.received ∷ a.recovered ∷ a.full_number ∷ []

abbrev known : ReportsAnswer
known = reports_of (Ok (record { is_flushed = true; has_packets_to_send = false; len = 1; len_bytes = 2; duration = 3 }))

pub record Examples : Type 0 where
  -- the numbers of the modes, both ways; fields that a mode doesn't use are 0
  pub modes : map (λ (n : ℕ). mode_of n 8 0) (0 ∷ 1 ∷ 2 ∷ []) ≡ Input 8 0 ∷ Estimated 8 0 ∷ Max 8 ∷ []
  pub free : mode_of 3 0 0 ≡ Unlimited
  pub codes : map code_from (Input 8 9 ∷ Estimated 8 9 ∷ Max 8 ∷ Unlimited ∷ []) ≡ 0 ∷ 1 ∷ 2 ∷ 3 ∷ []
  pub no_mode : map (λ (n : ℕ). mode_of n 8 9) (2 ∷ 3 ∷ 4 ∷ []) ≡ Max 0xffff_ffff_ffff_ffff ∷ Max 0xffff_ffff_ffff_ffff ∷ Max 0xffff_ffff_ffff_ffff ∷ []
  pub nexts : next_of 0 0 ∷ next_of 1 7 ∷ next_of 0 7 ∷ next_of 2 0 ∷ [] ≡ None ∷ Some 7 ∷ Some 0xffff_ffff_ffff_ffff ∷ Some 0xffff_ffff_ffff_ffff ∷ []
  pub held : flushed_of (record { held = 1; number = 5; slot = 6; len = 7 }) ≡ Some (flushed_packet (number 5) 6 7)
  pub unheld : flushed_of (record { held = 0; number = 0; slot = 0; len = 0 }) ≡ None
  -- the table's values, in its order
  pub invalid : refused_of (InvalidAck (number 21) (number 22) (number 23)) ≡ refusal 10 21 22 23
  pub stale : refused_of (StaleFullAck 24 25) ≡ refusal 11 24 25 0
  pub malformed : refused_of (BadNak 26) ≡ refusal 12 26 0 0
  pub broken : payload_of (Err BadState) ≡ record { refusal = refusal 3 0 0 0; place = 0; len = 0 }
  -- each value of an answer is in its own field, whatever the sender s after the call and the numbers f before it
  pub pushed : (f : FlatSender) (s : Sender)
      → said_of (message_of f (Ok (s, record { made = 1; removed = 2; bytes = 3; period = Some 4 }))) ≡ 1 ∷ 2 ∷ 3 ∷ 4 ∷ []
  pub no-period : (f : FlatSender) (s : Sender)
      → said_of (message_of f (Ok (s, record { made = 1; removed = 0; bytes = 0; period = None }))) ≡ 1 ∷ 0 ∷ 0 ∷ 0 ∷ []
  pub acked : (f : FlatSender) (s : Sender)
      → counts_of (ack_of f (Ok (s, record { received = 1; recovered = 2; send_ack2 = Some 3 }))) ≡ 1 ∷ 2 ∷ 3 ∷ []
  pub reported : (f : FlatSender) (s : Sender) → (nak_of f (Ok (s, 5))).runs ≡ 5
  pub ran : (f : FlatSender) (s : Sender) → (run_of f (Ok (s, 5, 6))).records ∷ (run_of f (Ok (s, 5, 6))).left ∷ [] ≡ 5 ∷ 6 ∷ []
  pub lies : payload_of (Ok (record { place = 5; len = 6 })) ≡ record { refusal = none; place = 5; len = 6 }
  pub reports : known.len ∷ known.len_bytes ∷ known.duration ∷ [] ≡ 1 ∷ 2 ∷ 3 ∷ []
  pub flags : (known.is_flushed ≡ true) × (known.has_packets_to_send ≡ false)
  -- an ACK with and without a full number and a round-trip time
  pub brought : (full_of true 7 ≡ Some 7) × (full_of false 7 ≡ None)
  pub measured : (rtt_of true (record { mean = 7; variance = 8 }) ≡ Some (record { mean = 7; variance = 8 })) × (rtt_of false (record { mean = 7; variance = 8 }) ≡ None)

pub examples : Examples
unfolding mode_of next_of flushed_of refused_of message_of ack_of nak_of run_of payload_of reports_of
examples =
    record {
      modes = refl;
      free = refl;
      codes = refl;
      no_mode = refl;
      nexts = refl;
      held = refl;
      unheld = refl;
      invalid = refl;
      stale = refl;
      malformed = refl;
      broken = refl;
      pushed = λ f s. refl;
      no-period = λ f s. refl;
      acked = λ f s. refl;
      reported = λ f s. refl;
      ran = λ f s. refl;
      lies = refl;
      reports = refl;
      flags = (refl, refl);
      brought = (refl, refl);
      measured = (refl, refl);
    }
