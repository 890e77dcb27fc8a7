-- A run on the sender and its lent areas is the run of the rules, for every sender that the books represent and that
-- keeps the book rules.
--   verdict_of, sender_after   an answer's verdict, and the sender from then on
--   Said                       the records in the list, their number and the budget left are what the rules say
--   Answers                    an outcome of the call is an answer of the rules
--   run_refines                the call answers and leaves what the rules say
--   run_short, run-broken      if an area is too short; and otherwise, if the books break a rule
use Rattle.std.specs.Prelude.{◌≡◌, Bool, ◌&&◌, cond, List, ◌++◌, leb, eqb, length, Result, Ok, Err, ℕ}
use Rattle.std.proofs.Math.Path.{refl, sym, ap, subst}
use Rattle.std.proofs.Common.{◌∙◌, arith, leb-false, lt-ltb, le-ltb}
use Rattle.std.proofs.Math.Bool.{true, false}
use Prim.Native.Nat.{ℕ, zero, suc, ◌+◌, ◌-◌, ◌*◌, ◌/◌, ◌%◌, ◌^◌, ◌<◌, min}
use Rattle.std.proofs.Math.Nat.{zero-add}
use Rattle.std.proofs.Math.Decide.{dec_lt}
use Rattle.std.proofs.Math.Dec.{ltb}
use Rattle.rules_refusals.specs.declared.Refusal.{Refusal}
use Rattle.rules_refusals.specs.declared.Refusal.TheVariants.{BadStore, BadState, BadTime, NoRoom}
use Rattle.rules_refusals.specs.Table.{number_of}
use Rattle.rules_refusals.specs.Verdict.{Verdict, accepted, when, answer}
use Rattle.rules.specs.Settings.{Settings}
use Rattle.rules.specs.Sender as rules
use Rattle.rules_theorems.specs.Laws.BookRules.{Kept, facts_kept}
use Rattle.rules.specs.Calls as calls
use Rattle.rules.specs.Refusals as tests
use Rattle.rules.specs.Numbers.{wire}
use Rattle.rules.specs.Records.{sends}
use Rattle.rules.specs.Run as Rules
use Rattle.rules_theorems.specs.Laws.Run as RunLaws
use Rattle.rules_theorems.proofs.Split as split
use Rattle.rules_theorems.proofs.Split.{loop-end, loop-on}
use Rattle.buffer.specs.State.View.{packets-length}
use Rattle.run_effects.specs.Sending.{written}
use Rattle.buffer_run.specs.Run as Run
use Rattle.buffer_run.specs.Run.Laws.Whole.{run_refines as buffer-refines}
use Rattle.sender.specs.declared.Sender.{Sender}
use Rattle.sender.specs.SenderAndAreas.{Books, books, state_of, rules_of, areas_short, kept, judge}
use Rattle.sender.specs.SenderAndAreas.Stands.{StandsFor, areas-long, judge-accepted, judge-short, judge-broken}
use Rattle.run.specs.Runs.{Runs, runs, room_for, run_verdict, ran_by, run}

abbrev pub verdict_of : Result (Sender × ℕ × ℕ) Refusal → Verdict
verdict_of (Ok (s, n, left)) = accepted
verdict_of (Err r) = Err r

-- a refused run leaves the caller's sender
abbrev pub sender_after : Sender → Result (Sender × ℕ × ℕ) Refusal → Sender
sender_after s (Ok (t, n, left)) = t
sender_after s (Err r) = s

abbrev pub Said : Result (Sender × ℕ × ℕ) Refusal → List ℕ → List ℕ → calls.Said → Type 0
Said (Ok (t, n, left)) out list said = (list ≡ written 0 (calls.records_of said) out) × (n ≡ length (calls.records_of said)) × (said ≡ calls.Ran (calls.records_of said) left)
Said (Err r) out list said = (list ≡ out) × (said ≡ calls.Nothing)

pub record Answers (g : Books) (out : List ℕ) (l : Runs) (a : calls.Answer) : Type 0 where
  pub verdict : verdict_of l.answer ≡ a.verdict
  pub said : Said l.answer out l.out a.said
  pub settings : (sender_after g.sender l.answer).settings ≡ g.sender.settings
  pub stands : StandsFor (books (sender_after g.sender l.answer) l.ring l.lost) a.after

-- room for k records is k times 24 bytes
room-is : (n k : ℕ) → ltb n (k * 24) ≡ ltb (n / 24) k
room-is n k = go (dec_lt n (k * 24))
  where
    go : Dec (n < k * 24) → ltb n (k * 24) ≡ ltb (n / 24) k
    go (yes h) = lt-ltb n (k * 24) h ∙ sym (lt-ltb (n / 24) k (omega arith))
    go (no h) = le-ltb n (k * 24) (omega arith) ∙ sym (le-ltb (n / 24) k (omega arith))

-- ## A run doesn't change pacing

module _ (c : Settings) (now : ℕ) (draining : Bool) where
  extra-pacing : (u : Rules.Turn) → (Rules.extra c now draining u).after.pacing ≡ u.after.pacing
  unfolding Rules.extra Rules.send
  extra-pacing u = go (eqb (wire u.after.next % 16) 0 && ltb u.after.next (rules.end u.after))
    where
      go : (b : Bool)
          → (cond b (record {
            records = u.records ++ (Rules.send_next c now draining u.after).records;
            after = (Rules.send_next c now draining u.after).after;
            ends = false;
          }) u).after.pacing ≡ u.after.pacing
      go true = refl
      go false = refl

  obey-pacing : (r : Rules.Rule) (t : rules.Sender) → (Rules.obey c now draining r t).after.pacing ≡ t.pacing
  unfolding Rules.obey Rules.send Rules.flushed
  obey-pacing (Rules.loss x xs) t = refl
  obey-pacing (Rules.due n) t = refl
  obey-pacing Rules.window t = refl
  obey-pacing Rules.unsent t = extra-pacing (Rules.send_next c now draining t)
  obey-pacing Rules.flush t = refl
  obey-pacing Rules.input t = refl

  loop-pacing : (f b : ℕ) (t : rules.Sender) → (Rules.loop (Rules.others c now draining) f b t).after.pacing ≡ t.pacing
  unfolding Rules.loop Rules.others
  loop-pacing zero b t = refl
  loop-pacing (suc f) zero t = refl
  loop-pacing (suc f) (suc b) t =
      go (Rules.others c now draining t).ends refl (obey-pacing (Rules.rule c now draining t) t)
      (loop-pacing f (suc b - sends (Rules.others c now draining t).records) (Rules.others c now draining t).after)
    where
      go : (x : Bool) → (Rules.others c now draining t).ends ≡ x → (Rules.others c now draining t).after.pacing ≡ t.pacing
          → (Rules.loop (Rules.others c now draining) f (suc b - sends (Rules.others c now draining t).records) (Rules.others c now draining t).after).after.pacing
          ≡ (Rules.others c now draining t).after.pacing
          → (Rules.loop (Rules.others c now draining) (suc f) (suc b) t).after.pacing ≡ t.pacing
      go true e o ih = ap (λ (r : Rules.Result). r.after.pacing) (loop-end (Rules.others c now draining) f b t e) ∙ o
      go false e o ih = ap (λ (r : Rules.Result). r.after.pacing) (loop-on (Rules.others c now draining) f b t e) ∙ ih ∙ o

  dropped-pacing : (k : ℕ) (t : rules.Sender) → (Rules.dropped c now k t).after.pacing ≡ t.pacing
  unfolding Rules.dropped
  dropped-pacing zero t = refl
  dropped-pacing (suc k) t = refl

  run-pacing : (q : ℕ) (t : rules.Sender) → (Rules.run c now draining q t).after.pacing ≡ t.pacing
  unfolding RunLaws.split RunLaws.sweep
  run-pacing zero t = ap (λ (r : Rules.Result). r.after.pacing) (split.run_is c now draining zero t)
  run-pacing (suc q) t =
      ap (λ (r : Rules.Result). r.after.pacing) (split.run_is c now draining (suc q) t)
      ∙ loop-pacing (suc q) (suc q) (Rules.dropped c now (Rules.late c now t.packets) t).after
      ∙ dropped-pacing (Rules.late c now t.packets) t

-- ## The call

cond_same : (b : Bool) (s : rules.Sender) → cond b s s ≡ s
cond_same true s = refl
cond_same false s = refl

module _ (g : Books) (s : rules.Sender) (S : StandsFor g s) (K : Kept (rules_of g) s) (now p : ℕ) (draining : Bool) (out : List ℕ) where
  abbrev c : Settings
  c = rules_of g

  abbrev call : calls.Call
  call = calls.runs now p draining (length out / 24)

  refused-by : (r : Refusal) → tests.run_verdict c now p (length out / 24) s ≡ Err r
      → Answers g out (runs (Err r) g.ring g.lost out) (calls.answer c call s)
  unfolding calls.answer calls.verdict_of calls.answer_by calls.left calls.with_rtt
  refused-by r e = rw e (record { verdict = refl; said = (refl, refl); settings = refl; stands = subst (StandsFor g) (sym (cond_same (eqb (number_of r) 11) s)) S })

  taken : now < 2 ^ 48 → tests.run_verdict c now p (length out / 24) s ≡ accepted
      → Answers g out (ran_by g.sender (Run.run c now draining p (state_of g) out)) (calls.answer c call s)
  unfolding calls.answer calls.verdict_of calls.answer_by calls.said_by calls.after calls.records_of
  taken early e =
      let W = buffer-refines c now draining early p (state_of g) s out S.buffer K in
      rw e (record {
        verdict = refl;
        said = (W.out, W.count ∙ zero-add (length (Rules.run c now draining p s).records), ap (calls.Ran (Rules.run c now draining p s).records) (sym W.left));
        settings = refl;
        stands = record { buffer = W.state; pacing = S.pacing ∙ sym (run-pacing c now draining p s) };
      })

  judged : judge (areas_short c (length g.ring) (length g.lost)) g ≡ accepted
  judged = judge-accepted g s S K (areas_short c (length g.ring) (length g.lost)) (areas-long g s S)

  few : g.sender.buffer.ring.len ≡ length s.packets
  few = sym (packets-length g.sender.buffer.ring g.ring) ∙ ap length S.buffer.packets

  go : (a b : Bool) → leb (2 ^ 48) now ≡ a → ltb (length out / 24) (min p (length s.packets) + 3) ≡ b
      → Answers g out
      (answer (λ r. runs (Err r) g.ring g.lost out) (when a BadTime (when b NoRoom accepted))
      (ran_by g.sender (Run.run c now draining p (state_of g) out))) (calls.answer c call s)
  unfolding tests.run_verdict
  go true b e f = refused-by BadTime (rw (facts_kept c s K, e))
  go false true e f = refused-by NoRoom (rw (facts_kept c s K, e, f))
  go false false e f = taken (leb-false _ _ e) (rw (facts_kept c s K, e, f))

  pub run_refines : Answers g out (run g now p draining out) (calls.answer c call s)
  unfolding run run_verdict
  run_refines =
      let room : ltb (length out) (room_for p g.sender.buffer.ring.len) ≡ ltb (length out / 24) (min p (length s.packets) + 3) =
      room-is (length out) (min p g.sender.buffer.ring.len + 3) ∙ ap (λ (n : ℕ). ltb (length out / 24) (min p n + 3)) few in
      rw (judged, room)
      (go (leb (2 ^ 48) now) (ltb (length out / 24) (min p (length s.packets) + 3)) refl refl)

module _ (g : Books) (now p : ℕ) (draining : Bool) (out : List ℕ) where
  pub run_short : areas_short (rules_of g) (length g.ring) (length g.lost) ≡ true → run g now p draining out ≡ runs (Err BadStore) g.ring g.lost out
  unfolding run run_verdict
  run_short e = rw (e, judge-short g)

  pub run-broken : areas_short (rules_of g) (length g.ring) (length g.lost) ≡ false → kept g ≡ false
      → run g now p draining out ≡ runs (Err BadState) g.ring g.lost out
  unfolding run run_verdict
  run-broken e b = rw (e, judge-broken g b)
