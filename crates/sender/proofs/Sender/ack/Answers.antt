-- `sender::Sender::ack` meets its contract: refused with the sender unchanged, or answered by buffer_ack.
--   refused, agreed   what `map_err`, which puts the sender s beside a refusal, made of the verdict v
use Rattle.std.specs.Prelude.{◌≡◌, refl, ℕ, Result, Ok, Err, MatchResult, IsErrAnd}
use Rattle.std.proofs.Common.{sym, ap, ◌∙◌, arith, rules, subst}
use Rattle.std.proofs.lemmas.Result.{err_from_is_err_and}
use Rattle.refusals.specs.Laws.{answer-accepted}
use Rattle.rules_refusals.specs.declared.Refusal.{Refusal}
use Rattle.rules_refusals.specs.Verdict.{Verdict, accepted, answer}
use Rattle.sender.specs.declared.Sender.{Sender}
use Rattle.sender.specs.Acks.{ack}
use Rattle.sender.specs.Acks.Laws.{acknowledged-by, asked}
use Rattle.sender.proofs.Sender.ack.Goals as goal

refused : {A : Type 0} (s : Sender) (v w : Verdict) (m : Result (Unit {0}) (Sender × Refusal)) (P : Refusal → Sender × Refusal → Type 0) (e : Sender × Refusal)
    (a : Result A (Sender × Refusal))
    → ((r : Refusal) → P r e → e ≡ (s, r))
    → MatchResult v (λ u. m ≡ Ok u) (λ r. IsErrAnd m (P r))
    → v ≡ w
    → m ≡ Err e
    → Err e ≡ answer (λ r. Err (s, r)) w a
refused s (Ok u) w m P e a f h same k = absurd (let z : ◌≡◌ {A = ℕ} 0 1 = cc in omega arith)
refused s (Err r) w m P e a f h same k = rw (← same) (ap Err (f r (subst (λ (x : Result (Unit {0}) (Sender × Refusal)). IsErrAnd x (P r)) k h)))

agreed : (v : Verdict) (m : Result (Unit {0}) (Sender × Refusal)) (P : Refusal → Sender × Refusal → Type 0) (u : Unit {0})
    → MatchResult v (λ u. m ≡ Ok u) (λ r. IsErrAnd m (P r))
    → m ≡ Ok u
    → v ≡ accepted
agreed (Ok _) m P u h k = refl
agreed (Err r) m P u h k = absurd (subst (λ (x : Result (Unit {0}) (Sender × Refusal)). IsErrAnd x (P r)) k h)

pub returns-in_err-map_err : goal.returns-in_err-map_err
unfolding ack
returns-in_err-map_err c =
    let p = err_from_is_err_and c.from_residual.result c.from_residual.ensures.1 in
    rw (p.1, p.2)
    (refused c.args.self c.judge_ack.result _ c.map_err.result _ _ _ (λ r h. search rules) c.map_err.ensures.cases c.judge_ack.ensures c.in_err-map_err.was)

pub update_largest_acked_seq_number-acked-requires : goal.update_largest_acked_seq_number-acked-requires
update_largest_acked_seq_number-acked-requires c =
    asked _ _ _ (sym c.judge_ack.ensures ∙ agreed c.judge_ack.result c.map_err.result _ _ c.map_err.ensures.cases c.in_ok-map_err.was)

pub returns : goal.returns
unfolding ack
returns c =
    c.acknowledge.ensures
    ∙ acknowledged-by c.args.self _ _ (sym c.update_largest_acked_seq_number-acked.ensures)
    ∙ answer-accepted _ _ _ _ c.judge_ack.ensures (agreed c.judge_ack.result c.map_err.result _ _ c.map_err.ensures.cases c.in_ok-map_err.was)
