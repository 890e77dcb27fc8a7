-- The code of the loss report agrees with its definition.
--   words-bad, words-items   the tests for 12 and 13
--   words-fine               what is known of words that they accept
--   judge-nak-is             a chain of all tests is the verdict; no code cites it now
--   reportable               a report that no test refuses
--   nak-done                 the answer, from what buffer_nak left
use Rattle.std.specs.Prelude.{◌≡◌, refl, List, ℕ, ◌*◌, ◌/◌, ◌≤◌, ◌<◌, ltb, length, Result, Ok, Err}
use Rattle.std.proofs.Common.{sym, ap, ◌∙◌, arith, lt-ltb, le-ltb, ltb-false}
use Rattle.std.proofs.Math.Bool.{Bool}
use Rattle.std.proofs.Math.Decide.{dec_lt}
use Rattle.rules_refusals.specs.declared.Refusal.TheVariants.{BadNak, NoRoom}
use Rattle.rules_refusals.specs.declared.Refusal.{Refusal}
use Rattle.rules_refusals.specs.Verdict.{Verdict, accepted, when}
use Rattle.refusals.specs.Laws.{when-accepted}
use Rattle.rules.specs.Losses.{Words, items, items_of, bad, words_of}
use Rattle.rules.specs.Refusals.{words_verdict}
use Rattle.book_rules.specs.Kept.Stands.{kept-ready}
use Rattle.loss_words.specs.Words.{judged}
use Rattle.buffer_nak.specs.declared.Reported as report
use Rattle.buffer_nak.specs.Report.{left, add}
use Rattle.buffer_nak.specs.Report.Laws.{Reportable}
use Rattle.sender.specs.SenderAndAreas.{Books, state_of, rules_of, areas_short, judge, judge_areas}
use Rattle.sender.specs.SenderAndAreas.Laws as books
use Rattle.sender.specs.Calls.{sender_of, then}
use Rattle.sender.specs.Calls.Laws.{then-accepted}
use Rattle.nak.specs.Naks.{nak_verdict, naks, nak_by}

room-is : (m n : ℕ) → ltb (m / 3) (3 * n) ≡ ltb (m / 9) n
room-is m n = go (dec_lt (m / 9) n)
  where
    go : Dec (m / 9 < n) → ltb (m / 3) (3 * n) ≡ ltb (m / 9) n
    go (yes h) = lt-ltb (m / 3) (3 * n) (omega arith) ∙ sym (lt-ltb (m / 9) n h)
    go (no h) = le-ltb (m / 3) (3 * n) (omega arith) ∙ sym (le-ltb (m / 9) n (omega arith))

-- what the reader found
abbrev by_report : Result ℕ Refusal → ℕ → Verdict
by_report (Err r) room = Err r
by_report (Ok n) room = when (ltb (room / 9) n) NoRoom accepted

by-words : (w : Words) (room : ℕ) → by_report (judged w) room ≡ words_verdict w (room / 3)
unfolding words_verdict
by-words (items is) room = rw (room-is room (length is))
by-words (bad index) room = refl

module _ (w : Words) (room : ℕ) (r : Result ℕ Refusal) (same : r ≡ judged w) where
  pub words-bad : (q : Refusal) → r ≡ Err q → Err q ≡ words_verdict w (room / 3)
  words-bad q e = ap (λ (x : Result ℕ Refusal). by_report x room) (sym e ∙ same) ∙ by-words w room

  pub words-items : (n : ℕ) (v : Verdict) → r ≡ Ok n → v ≡ when (ltb (room / 9) n) NoRoom accepted → v ≡ words_verdict w (room / 3)
  words-items n v e f = f ∙ ap (λ (x : Result ℕ Refusal). by_report x room) (sym e ∙ same) ∙ by-words w room

pub words-fine : (w : Words) (room : ℕ) → words_verdict w room ≡ accepted → (w ≡ items (items_of w)) × (3 * length (items_of w) ≤ room)
unfolding words_verdict
words-fine (items is) room e = (refl, ltb-false _ _ (when-accepted (ltb room (3 * length is)) NoRoom accepted e).0)
words-fine (bad index) room e = absurd (let z : ◌≡◌ {A = ℕ} 0 1 = cc in omega arith)

module _ (g : Books) (ws : List ℕ) where
  pub judge-nak-is : (room : ℕ) (state words v : Verdict) → state ≡ judge_areas g
      → words ≡ words_verdict (words_of ws) (room / 3)
      → v ≡ then state words
      → v ≡ nak_verdict g ws room
  unfolding nak_verdict
  judge-nak-is room state words v a d e = e ∙ rw (a, d)

  pub reportable : (out : List ℕ) → nak_verdict g ws (length out) ≡ accepted → Reportable g.sender.buffer ws g.lost out
  unfolding nak_verdict
  reportable out e =
      let short : Bool = areas_short (rules_of g) (length g.ring) (length g.lost) in
      let both = then-accepted (judge short g) (words_verdict (words_of ws) (length out / 3)) e in
      let fine = words-fine (words_of ws) (length out / 3) both.1 in
      record {
        settings = rules_of g;
        ring = g.ring;
        ready = kept-ready (rules_of g) (state_of g) (books.judged short g both.0).buffer;
        accepted = record { fine = fine.0; room = omega (arith, fine.1) };
      }

  pub nak-done : (out : List ℕ) (r : report.Reported) (lost after : List ℕ) → left r lost after ≡ add g.sender.buffer ws g.lost out
      → naks (Ok (sender_of g.sender.settings r.buffer g.sender.pacing, r.runs)) lost after
      ≡ nak_by g.sender (add g.sender.buffer ws g.lost out)
  nak-done out r lost after e = ap (nak_by g.sender) e
