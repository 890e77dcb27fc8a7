-- The calls on the sender and its lent areas: the answer, and every lent element afterwards. Document 01, "Refusal
-- numbers": "The lowest that applies is given, with only what the table names. All stays as before; 11 alone keeps a
-- new RTT."
--   sender_of c b p                   a sender from its parts
--   made c mode                       a request for a new sender
--   count_is_full s now n             row 6, for a message of n bytes
--   then v w                          the tests w after the tests v
--   short_for, judge_with_store g n   row 2, and rows 2 and 3, with a store of n bytes
--   input_verdict, message_verdict    refusals 4 to 6, and 2 to 6
--   finished c p paced                the answer to an accepted message, from what was pushed and what pacing answered
--                                     (messaged_by, pushed_of)
--   Messages, area                    the answer to a message, and the lent areas afterwards
--   done, done_by, message            an accepted message; the call
pub mod Laws
pub mod Stands
use Rattle.std.specs.Prelude.{Bool, ◌||◌, List, ℕ, ◌+◌, ◌*◌, ◌^◌, ltb, leb, length, Option, Some, None, Result, Ok, Err}
use Rattle.rules_refusals.specs.declared.Refusal.TheVariants.{BadTime, TooLong, CountFull}
use Rattle.rules_refusals.specs.Verdict.{Verdict, accepted, when, answer}
use Rattle.rules_packets.specs.Split.{count}
use Rattle.rules_pacing.specs.declared.SenderCongestionControl.{SenderCongestionControl}
use Rattle.rules_pacing.specs.declared.LiveBandwidthMode.{LiveBandwidthMode}
use Rattle.rules_pacing.specs.Kept as Pacing
use Rattle.rules_pacing.specs.Pacing.{count_full, input}
use Rattle.rules.specs.Refusals.{new_verdict}
use Rattle.buffer.specs.declared.Settings.{Settings}
use Rattle.buffer.specs.declared.SendBuffer.{SendBuffer}
use Rattle.buffer.specs.State.{settings_of, fresh}
use Rattle.buffer_push.specs.declared.Pushed.{Pushed}
use Rattle.buffer_push.specs.Message as Message
use Rattle.buffer_push.specs.Message.{Work, Pushing}
use Rattle.sender.specs.declared.Sender.{Sender}
use Rattle.sender.specs.SenderAndAreas.{Books, state_of, rules_of, areas_short, store_short, judge}
use Rattle.rules_refusals.specs.declared.Refusal.{Refusal}
use Rattle.sender.specs.declared.Answer.{Answer}

abbrev pub sender_of : Settings → SendBuffer → SenderCongestionControl → Sender
sender_of c b p = record { settings = c; buffer = b; pacing = p }

-- row 1, BadSetting: "a setting is outside its range"
unfoldable pub made : Settings → LiveBandwidthMode → Result Sender Refusal
made c mode = answer Err (new_verdict (settings_of c) mode) (Ok (sender_of c (fresh (settings_of c)) (Pacing.fresh mode)))

-- "byte count with the message's wire sizes is 2^62 or more; or packets or payload bytes since the last estimate ..
-- pass 2^38"
unfoldable pub count_is_full : Sender → ℕ → ℕ → Bool
count_is_full s now n =
    let k = count s.settings.size n in
    leb (2 ^ 62) (s.buffer.bytes + n + k * s.settings.overhead) || count_full s.pacing now k n

-- row 4, BadTime: "a time is at or over its limit"; row 5, TooLong: "message over 1,048,576 bytes"; row 6, CountFull
unfoldable pub input_verdict : Sender → ℕ → ℕ → ℕ → Verdict
input_verdict s time now n =
    when (leb (2 ^ 48) time || leb (2 ^ 48) now) BadTime (when (ltb 1_048_576 n) TooLong (when (count_is_full s now n) CountFull accepted))

abbrev pub then : Verdict → Verdict → Verdict
then (Ok _) v = v
then (Err r) v = Err r

abbrev pub short_for : Books → ℕ → Bool
short_for g store = areas_short (rules_of g) (length g.ring) (length g.lost) || store_short (rules_of g) store

abbrev pub judge_with_store : Books → ℕ → Verdict
judge_with_store g store = judge (short_for g store) g

unfoldable pub message_verdict : Books → ℕ → ℕ → ℕ → ℕ → Verdict
message_verdict g time now n store = then (judge_with_store g store) (input_verdict g.sender time now n)

abbrev pub messaged_by : Settings → Pushed → SenderCongestionControl → Option ℕ → Result (Sender × Answer) Refusal
messaged_by c p q n = Ok (sender_of c p.buffer q, record { made = p.made; removed = p.removed; bytes = p.bytes; period = n })

-- "Answer: packets made, packets removed, wire bytes removed .., and any new period."
abbrev pub finished : Settings → Pushed → Result (Option ℕ × SenderCongestionControl) Refusal → Result (Sender × Answer) Refusal
finished c p (Ok (n, q)) = messaged_by c p q n
finished c p (Err r) = Err r

pub record Messages : Type 0 where
  pub answer : Result (Sender × Answer) Refusal
  pub ring : List ℕ
  pub lost : List ℕ
  pub store : List ℕ

abbrev pub area : Result (Sender × Answer) Refusal → List ℕ → List ℕ → List ℕ → Messages
area answer ring lost store = record { answer = answer; ring = ring; lost = lost; store = store }

abbrev pub pushed_of : Work → Pushed
pushed_of w = record { buffer = w.state.books; made = w.made; removed = w.removed; bytes = w.wire }

-- what is pushed, and "pacing, which takes the packets made and their payload bytes"
abbrev pub done_by : Sender → ℕ → ℕ → Pushing → Messages
done_by s now n w =
    area (finished s.settings (pushed_of w.work) (input s.pacing now w.work.made n)) w.work.state.ring w.work.state.lost w.store

unfoldable pub done : Books → ℕ → ℕ → List ℕ → List ℕ → Messages
done g time now payload store = done_by g.sender now (length payload) (Message.message (rules_of g) time payload (state_of g) store)

unfoldable pub message : Books → ℕ → ℕ → List ℕ → List ℕ → Messages
message g time now payload store =
    answer (λ r. area (Err r) g.ring g.lost store) (message_verdict g time now (length payload) (length store))
    (done g time now payload store)
