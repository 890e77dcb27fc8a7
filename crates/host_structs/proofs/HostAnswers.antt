-- What a host can tell from an answer.
--   refused-some                          a refusal's number is not 0, so 0 means that the call was accepted
--   message-after, nak-after, run-after   the sender in the answer is the sender after the call
use Rattle.std.specs.Prelude.{◌≡◌, ◌≤◌, Result, Ok, Err, ℕ}
use Rattle.std.proofs.Math.Path.{refl}
use Rattle.std.proofs.Common.{arith}
use Rattle.rules_refusals.specs.declared.Refusal.{Refusal}
use Rattle.rules_refusals.specs.declared.Refusal.TheVariants.{BadSetting, BadStore, BadState, BadTime, TooLong, CountFull, BadNumber, BadRtt, Empty, InvalidAck, StaleFullAck, BadNak, NoRoom, NotHeld}
use Rattle.sender.specs.Calls.Stands as Message
use Rattle.nak.specs.Naks.Stands as Nak
use Rattle.run.specs.Runs.Stands as Run
use Rattle.host_structs.specs.declared.senders.FlatSender.{FlatSender}
use Rattle.host_structs.specs.Senders.{sender_of}
use Rattle.host_structs.proofs.ReadBack.{read_back}
use Rattle.host_structs.specs.Replies.{refused_of, message_of, nak_of, run_of}
use Rattle.sender.specs.declared.Answer.{Answer}
use Rattle.sender.specs.declared.Sender.{Sender}

pub refused-some : (r : Refusal) → 1 ≤ (refused_of r).number
unfolding refused_of
refused-some BadSetting = omega arith
refused-some BadStore = omega arith
refused-some BadState = omega arith
refused-some BadTime = omega arith
refused-some TooLong = omega arith
refused-some CountFull = omega arith
refused-some BadNumber = omega arith
refused-some BadRtt = omega arith
refused-some Empty = omega arith
refused-some (InvalidAck a f n) = omega arith
refused-some (StaleFullAck n e) = omega arith
refused-some (BadNak i) = omega arith
refused-some NoRoom = omega arith
refused-some NotHeld = omega arith

module _ (f : FlatSender) where
  pub message-after : (a : Result (Sender × Answer) Refusal) → sender_of (message_of f a).sender ≡ Message.sender_after (sender_of f) a
  unfolding message_of
  message-after (Ok (s, a)) = read_back s
  message-after (Err r) = refl

  pub nak-after : (a : Result (Sender × ℕ) Refusal) → sender_of (nak_of f a).sender ≡ Nak.sender_after (sender_of f) a
  unfolding nak_of
  nak-after (Ok (s, n)) = read_back s
  nak-after (Err r) = refl

  pub run-after : (a : Result (Sender × ℕ × ℕ) Refusal) → sender_of (run_of f a).sender ≡ Run.sender_after (sender_of f) a
  unfolding run_of
  run-after (Ok (s, n, left)) = read_back s
  run-after (Err r) = refl
