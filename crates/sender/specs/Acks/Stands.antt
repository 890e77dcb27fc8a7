-- An ACK on the sender and its lent areas is the ACK of the rules, for every sender that the books represent and that
-- keeps the book rules.
--   verdict_of, said_of, sender_after   an answer's verdict, its values, and the sender from then on
--   Answers                             an outcome of the call is an answer of the rules
--   ack_refines                         the call answers and leaves what the rules say; 11 alone keeps a new RTT
--   ack-short, ack-broken               if an area is too short; and otherwise, if the books break a rule
use Rattle.std.specs.Prelude.{◌≡◌, Bool, ℕ, ◌^◌, leb, eqb, length, Option, Result, Ok, Err}
use Rattle.std.proofs.Math.Path.{refl}
use Rattle.std.proofs.Common.{sym, ap, ◌∙◌, leb-false}
use Rattle.std.proofs.Math.Bool.{true, false}
use Rattle.rules_refusals.specs.declared.Refusal.{Refusal}
use Rattle.rules_refusals.specs.declared.Refusal.TheVariants.{BadStore, BadState, BadNumber, BadRtt}
use Rattle.rules_refusals.specs.Table.{number_of}
use Rattle.rules_refusals.specs.Verdict.{Verdict, accepted, when, answer}
use Rattle.laws.specs.Choice.{cond-by}
use Rattle.rules.specs.Settings.{Settings}
use Rattle.rules.specs.Sender as rules
use Rattle.rules.specs.Ack.{acknowledge, take_rtt}
use Rattle.rules_theorems.specs.Laws.BookRules.{Kept, facts_kept}
use Rattle.rules.specs.Refusals as tests
use Rattle.rules.specs.Refusals.{bad_rtt}
use Rattle.rules.specs.Calls as calls
use Rattle.rules_theorems.specs.Laws.Calls.{answer-by}
use Rattle.buffer_ack.specs.Ack as Ack
use Rattle.buffer_ack.specs.Ack.{update}
use Rattle.buffer_ack.specs.Ack.Stands.{ack_refines as buffer-refines}
use Rattle.sender.specs.declared.Sender.{Sender}
use Rattle.sender.specs.SenderAndAreas.{Books, books, state_of, rules_of, areas_short, kept, judge}
use Rattle.sender.specs.SenderAndAreas.Stands.{StandsFor, stands_as, areas-long, judge-accepted, judge-short, judge-broken}
use Rattle.sender.specs.Calls.{sender_of}
use Rattle.sender.specs.Acks.{ack_verdict, acknowledged, ack}
use Rattle.rules_numbers.specs.declared.Rtt.{Rtt}
use Rattle.buffer_ack.specs.declared.AckAction.{AckAction}
use Rattle.buffer.specs.declared.SendBuffer.{SendBuffer}

abbrev pub verdict_of : Result (Sender × AckAction) (Sender × Refusal) → Verdict
verdict_of (Ok (s, a)) = accepted
verdict_of (Err (s, r)) = Err r

abbrev pub said_of : Result (Sender × AckAction) (Sender × Refusal) → calls.Said
said_of (Ok (s, a)) = calls.Acked a.received a.recovered a.send_ack2
said_of (Err (s, r)) = calls.Nothing

abbrev pub sender_after : Result (Sender × AckAction) (Sender × Refusal) → Sender
sender_after (Ok (s, a)) = s
sender_after (Err (s, r)) = s

-- the outcome o of the call is the answer a of the rules
pub record Answers (g : Books) (o : Result (Sender × AckAction) (Sender × Refusal)) (a : calls.Answer) : Type 0 where
  pub verdict : verdict_of o ≡ a.verdict
  pub said : said_of o ≡ a.said
  pub settings : (sender_after o).settings ≡ g.sender.settings
  pub stands : StandsFor (books (sender_after o) g.ring g.lost) a.after

record Shown (s : Sender) (a : Result (SendBuffer × AckAction) (SendBuffer × Refusal)) : Type 0 where
  pub verdict : verdict_of (acknowledged s a) ≡ Ack.verdict_of a
  pub said : said_of (acknowledged s a) ≡ Ack.said_of a
  pub sender : sender_after (acknowledged s a) ≡ sender_of s.settings (Ack.books_of a) s.pacing

shown : (s : Sender) (a : Result (SendBuffer × AckAction) (SendBuffer × Refusal)) → Shown s a
shown s (Ok (b, a)) = record { verdict = refl; said = refl; sender = refl }
shown s (Err (b, r)) = record { verdict = refl; said = refl; sender = refl }

module _ (g : Books) (s : rules.Sender) (S : StandsFor g s) (K : Kept (rules_of g) s) (n : ℕ) (full : Option ℕ) (rtt : Option Rtt) where
  abbrev c : Settings
  c = rules_of g

  abbrev call : calls.Call
  call = calls.ack n full rtt

  -- an ACK doesn't change pacing
  ack-pacing : (calls.answer c call s).after.pacing ≡ s.pacing
  unfolding calls.left calls.with_rtt calls.after take_rtt acknowledge
  ack-pacing =
      answer-by c call s (λ (a : calls.Answer). a.after.pacing ≡ s.pacing)
      (λ r e. cond-by (λ (t : rules.Sender). t.pacing ≡ s.pacing) (eqb (number_of r) 11) (take_rtt rtt s) s (λ q. refl) (λ q. refl)) (λ e. refl)

  refused-by : (r : Refusal) → tests.ack_verdict c n full rtt s ≡ Err r → eqb (number_of r) 11 ≡ false
      → Answers g (Err (g.sender, r)) (calls.answer c call s)
  unfolding calls.answer calls.verdict_of calls.answer_by calls.left
  refused-by r e h = rw e (record { verdict = refl; said = refl; settings = refl; stands = rw h S })

  taken : leb (2 ^ 31) n ≡ false → bad_rtt rtt ≡ false
      → Answers g (acknowledged g.sender (update c (record { 0 = n }) full rtt (state_of g))) (calls.answer c call s)
  taken e b =
      let A = buffer-refines S.buffer K (record { 0 = n }) (leb-false (2 ^ 31) n e) full rtt b in
      let H = shown g.sender (update c (record { 0 = n }) full rtt (state_of g)) in
      record {
        verdict = H.verdict ∙ A.verdict;
        said = H.said ∙ A.said;
        settings = ap (λ (t : Sender). t.settings) H.sender;
        stands =
            stands_as _ _ g.ring g.lost (calls.answer c call s).after H.sender
            (record { buffer = A.stands; pacing = S.pacing ∙ sym ack-pacing });
      }

  judged : judge (areas_short c (length g.ring) (length g.lost)) g ≡ accepted
  judged = judge-accepted g s S K (areas_short c (length g.ring) (length g.lost)) (areas-long g s S)

  go : (a b : Bool) → leb (2 ^ 31) n ≡ a → bad_rtt rtt ≡ b
      → Answers g
      (answer (λ r. Err (g.sender, r)) (when a BadNumber (when b BadRtt accepted))
      (acknowledged g.sender (update c (record { 0 = n }) full rtt (state_of g)))) (calls.answer c call s)
  unfolding tests.ack_verdict
  go true b e f = refused-by BadNumber (rw (facts_kept c s K, e)) refl
  go false true e f = refused-by BadRtt (rw (facts_kept c s K, e, f)) refl
  go false false e f = taken e f

  pub ack_refines : Answers g (ack g n full rtt) (calls.answer c call s)
  unfolding ack ack_verdict
  ack_refines = rw judged (go (leb (2 ^ 31) n) (bad_rtt rtt) refl refl)

module _ (g : Books) (n : ℕ) (full : Option ℕ) (rtt : Option Rtt) where
  pub ack-short : areas_short (rules_of g) (length g.ring) (length g.lost) ≡ true → ack g n full rtt ≡ Err (g.sender, BadStore)
  unfolding ack ack_verdict
  ack-short e = rw (e, judge-short g)

  pub ack-broken : areas_short (rules_of g) (length g.ring) (length g.lost) ≡ false → kept g ≡ false
      → ack g n full rtt ≡ Err (g.sender, BadState)
  unfolding ack ack_verdict
  ack-broken e b = rw (e, judge-broken g b)
