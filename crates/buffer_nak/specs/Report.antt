-- A loss report on the books and the lent areas. Document 01, "Loss words": "The answer lists, in order, maximal runs
-- of one kind and consecutive numbers, also across items; each has an exclusive end. .. Added numbers enter the list
-- once."
--   with_lost b n             b with another length of the loss list
--   runs_for b ws             the runs of the answer to the words ws
--   enter_run f kind a e xs   the list xs with the numbers from a up to e, exclusive, entered if the kind is Added; f is
--                             the front
--   enter_runs f rs xs        the same for the runs rs, one after the other
--   lost_after b ws lost      the loss list after the report
--   Left, left                the call's answer, and the loss area and the answer list afterwards
--   add                       the call
pub mod Laws
pub mod Stands
use Rattle.std.specs.Prelude.{cond, List, [], ◌∷◌, ℕ, eqb, length, take}
use Rattle.rules_numbers.specs.Modular.{seqs, dist}
use Rattle.rules.specs.Losses.{LossRun, words_of, joined, end_of, items_of}
use Rattle.loss_list.specs.LossList.{over, entered}
use Rattle.loss_words.specs.Runs.{code_of, words_for, runs_at}
use Rattle.buffer.specs.declared.SendBuffer.{SendBuffer}
use Rattle.buffer.specs.State.{put}
use Rattle.buffer_nak.specs.declared.Reported.{Reported}

abbrev pub with_lost : SendBuffer → ℕ → SendBuffer
with_lost b n = put b b.ring b.front.0 b.sent n b.bytes

abbrev pub runs_for : SendBuffer → List ℕ → List LossRun
runs_for b ws = joined (runs_at b.front.0 b.sent (items_of (words_of ws)))

unfoldable pub enter_run : ℕ → ℕ → ℕ → ℕ → List ℕ → List ℕ
enter_run f kind first end xs = cond (eqb kind 1) (entered (dist seqs f) first (dist seqs first end) xs) xs

unfoldable pub enter_runs : ℕ → List LossRun → List ℕ → List ℕ
enter_runs f [] xs = xs
enter_runs f (r ∷ rs) xs = enter_runs f rs (enter_run f (code_of r.kind) r.first (end_of r) xs)

abbrev pub lost_after : SendBuffer → List ℕ → List ℕ → List ℕ
lost_after b ws lost = enter_runs b.front.0 (runs_for b ws) (take b.lost lost)

pub record Left : Type 0 where
  pub answer : Reported
  pub lost : List ℕ
  pub out : List ℕ

abbrev pub left : Reported → List ℕ → List ℕ → Left
left answer lost out = record { answer = answer; lost = lost; out = out }

unfoldable pub add : SendBuffer → List ℕ → List ℕ → List ℕ → Left
add b ws lost out =
    let xs = lost_after b ws lost in
    let rs = runs_for b ws in
    left (record { buffer = with_lost b (length xs); runs = length rs }) (over xs lost) (over (words_for rs) out)
