-- A loss report on the sender and its lent areas. Document 01, "Loss words", and rows 2, 3, 12 and 13: BadNak, "loss
-- words malformed or over 512 words; returns the word's index"; NoRoom, "lent answer list too short"; "Room needed:
-- three per item."
--   nak_verdict g ws room   its tests; room is the number of words in the answer list, three per run
--   Naks, naks              the answer, and the loss area and the answer list afterwards; the ring is only read
--   nak_by, nak             an accepted report; the call
pub mod Laws
pub mod Stands
use Rattle.std.specs.Prelude.{List, ℕ, ◌/◌, length, Result, Ok, Err}
use Rattle.rules_refusals.specs.Verdict.{answer, Verdict}
use Rattle.rules.specs.Losses.{words_of}
use Rattle.rules.specs.Refusals.{words_verdict}
use Rattle.buffer_nak.specs.Report.{Left, add}
use Rattle.sender.specs.declared.Sender.{Sender}
use Rattle.sender.specs.SenderAndAreas.{Books, judge_areas}
use Rattle.sender.specs.Calls.{sender_of, then}
use Rattle.rules_refusals.specs.declared.Refusal.{Refusal}

unfoldable pub nak_verdict : Books → List ℕ → ℕ → Verdict
nak_verdict g ws room = then (judge_areas g) (words_verdict (words_of ws) (room / 3))

pub record Naks : Type 0 where
  pub answer : Result (Sender × ℕ) Refusal
  pub lost : List ℕ
  pub out : List ℕ

abbrev pub naks : Result (Sender × ℕ) Refusal → List ℕ → List ℕ → Naks
naks answer lost out = record { answer = answer; lost = lost; out = out }

abbrev pub nak_by : Sender → Left → Naks
nak_by s l = naks (Ok (sender_of s.settings l.answer.buffer s.pacing, l.answer.runs)) l.lost l.out

unfoldable pub nak : Books → List ℕ → List ℕ → Naks
nak g ws out =
    answer (λ r. naks (Err r) g.lost out) (nak_verdict g ws (length out)) (nak_by g.sender (add g.sender.buffer ws g.lost out))
