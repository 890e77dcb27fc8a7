-- A loss report on the sender and its lent areas is the report of the rules, for every sender that the books represent
-- and that keeps the book rules. The words of a report are u32; the answer list holds one run per three words.
--   verdict_of, sender_after   an answer's verdict, and the sender from then on
--   Listed, Says               the runs of the answer are in the list; a refusal leaves the list unchanged
--   Answers                    an outcome of the call is an answer of the rules
--   nak_refines                the call answers and leaves what the rules say
--   nak-short, nak-broken      if an area is too short; and otherwise, if the books break a rule
use Rattle.std.specs.Prelude.{◌≡◌, refl, List, ℕ, ◌/◌, ◌^◌, ◌<◌, true, false, eqb, length, get_or, Result, Ok, Err}
use Rattle.std.proofs.Common.{sym, ◌∙◌}
use Rattle.rules_refusals.specs.declared.Refusal.TheVariants.{BadStore, BadState}
use Rattle.rules_refusals.specs.Table.{number_of}
use Rattle.rules_refusals.specs.Verdict.{Verdict, accepted, answer}
use Rattle.laws.specs.Choice.{cond-by}
use Rattle.rules.specs.Settings.{Settings}
use Rattle.rules.specs.Sender as rules
use Rattle.rules_theorems.specs.Laws.BookRules.{Kept, facts_kept}
use Rattle.rules.specs.Losses.{LossRun, report, words_of}
use Rattle.rules.specs.Refusals.{nak_verdict as rulesVerdict, words_verdict}
use Rattle.rules.specs.Calls as calls
use Rattle.rules_theorems.specs.Laws.Calls.{answer-by}
use Rattle.loss_words.specs.Runs.Lent.{Holds}
use Rattle.buffer_nak.specs.Report.{add}
use Rattle.buffer_nak.specs.Report.Stands as Report
use Rattle.sender.specs.declared.Sender.{Sender}
use Rattle.sender.specs.SenderAndAreas.{Books, books, rules_of, areas_short, kept, judge}
use Rattle.sender.specs.SenderAndAreas.Stands.{StandsFor, areas-long, judge-accepted, judge-short, judge-broken}
use Rattle.nak.specs.Naks.{nak_verdict, Naks, naks, nak_by, nak}
use Rattle.nak.specs.Naks.Laws.{words-fine}
use Rattle.rules_refusals.specs.declared.Refusal.{Refusal}

abbrev pub verdict_of : Result (Sender × ℕ) Refusal → Verdict
verdict_of (Ok (s, n)) = accepted
verdict_of (Err r) = Err r

abbrev pub sender_after : Sender → Result (Sender × ℕ) Refusal → Sender
sender_after s (Ok (t, n)) = t
sender_after s (Err r) = s

pub record Listed (n : ℕ) (out after : List ℕ) (said : calls.Said) : Type 0 where
  pub runs : List LossRun
  pub is : said ≡ calls.Reported runs
  pub holds : Holds n runs out after

abbrev pub Says : Result (Sender × ℕ) Refusal → List ℕ → List ℕ → calls.Said → Type 0
Says (Ok (s, n)) out after said = Listed n out after said
Says (Err r) out after said = (said ≡ calls.Nothing) × (after ≡ out)

-- the outcome l of the call is the answer a of the rules
pub record Answers (g : Books) (list : List ℕ) (l : Naks) (a : calls.Answer) : Type 0 where
  pub verdict : verdict_of l.answer ≡ a.verdict
  pub said : Says l.answer list l.out a.said
  pub settings : (sender_after g.sender l.answer).settings ≡ g.sender.settings
  pub stands : StandsFor (books (sender_after g.sender l.answer) g.ring l.lost) a.after

module _ (g : Books) (s : rules.Sender) (S : StandsFor g s) (K : Kept (rules_of g) s) (ws out : List ℕ) (words : (j : ℕ) → get_or ws j 0 < 2 ^ 32) where
  abbrev c : Settings
  c = rules_of g

  abbrev call : calls.Call
  call = calls.nak ws (length out / 3)

  -- a loss report doesn't change pacing
  nak-pacing : (calls.answer c call s).after.pacing ≡ s.pacing
  unfolding calls.left calls.with_rtt calls.after report
  nak-pacing =
      answer-by c call s (λ (a : calls.Answer). a.after.pacing ≡ s.pacing)
      (λ r e. cond-by (λ (t : rules.Sender). t.pacing ≡ s.pacing) (eqb (number_of r) 11) s s (λ q. refl) (λ q. refl)) (λ e. refl)

  judged : judge (areas_short c (length g.ring) (length g.lost)) g ≡ accepted
  judged = judge-accepted g s S K (areas_short c (length g.ring) (length g.lost)) (areas-long g s S)

  verdict-is : rulesVerdict c ws (length out / 3) s ≡ words_verdict (words_of ws) (length out / 3)
  unfolding rulesVerdict
  verdict-is = rw (facts_kept c s K)

  taken : words_verdict (words_of ws) (length out / 3) ≡ accepted
      → Answers g out (nak_by g.sender (add g.sender.buffer ws g.lost out)) (calls.answer c call s)
  taken e =
      let fine = words-fine (words_of ws) (length out / 3) e in
      let A = Report.nak_refines S.buffer K ws out words fine.0 (length out / 3) fine.1 in
      record {
        verdict = sym A.verdict;
        said = record { runs = A.runs; is = A.said; holds = A.holds };
        settings = refl;
        stands = record { buffer = A.stands; pacing = S.pacing ∙ sym nak-pacing };
      }

  by-verdict : (v : Verdict) → words_verdict (words_of ws) (length out / 3) ≡ v
      → Answers g out (answer (λ r. naks (Err r) g.lost out) v (nak_by g.sender (add g.sender.buffer ws g.lost out))) (calls.answer c call s)
  unfolding calls.answer calls.verdict_of calls.answer_by calls.left calls.with_rtt
  by-verdict (Ok _) e = taken e
  by-verdict (Err r) e =
      rw (verdict-is ∙ e)
      (record { verdict = refl; said = (refl, refl); settings = refl; stands = cond-by (StandsFor g) (eqb (number_of r) 11) s s (λ q. S) (λ q. S) })

  pub nak_refines : Answers g out (nak g ws out) (calls.answer c call s)
  unfolding nak nak_verdict
  nak_refines = rw judged (by-verdict (words_verdict (words_of ws) (length out / 3)) refl)

module _ (g : Books) (ws out : List ℕ) where
  pub nak-short : areas_short (rules_of g) (length g.ring) (length g.lost) ≡ true → nak g ws out ≡ naks (Err BadStore) g.lost out
  unfolding nak nak_verdict
  nak-short e = rw (e, judge-short g)

  pub nak-broken : areas_short (rules_of g) (length g.ring) (length g.lost) ≡ false → kept g ≡ false
      → nak g ws out ≡ naks (Err BadState) g.lost out
  unfolding nak nak_verdict
  nak-broken e b = rw (e, judge-broken g b)
