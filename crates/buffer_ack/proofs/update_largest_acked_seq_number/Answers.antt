-- `buffer_ack::update_largest_acked_seq_number` meets its contract: refused by 9 or 10, refused by 11 with the RTT
-- taken over, or done by `acknowledge`.
use Rattle.std.proofs.Common.{Ok, Err, refl, rules, sym, true, ◌∙◌, ◌≡◌}
use Rattle.std.specs.Prelude.{Result, MatchResult, IsErrAnd}
use Rattle.std.specs.Result.{is_ok}
use Rattle.std.proofs.lemmas.Result.{err_from_is_err_and}
use Rattle.rules_refusals.specs.declared.Refusal.{Refusal}
use Rattle.rules_refusals.specs.Verdict.{Verdict, accepted}
use Rattle.buffer.specs.declared.SendBuffer.{SendBuffer}
use Rattle.buffer_ack.specs.Ack.{with}
use Rattle.buffer_ack.specs.Ack.Laws.{given-is, acceptable, update-refused, update-stale, update-done}
use Rattle.buffer_ack.proofs.update_largest_acked_seq_number.Goals as goal

passed : (v : Verdict) → true ≡ is_ok v → v ≡ accepted
passed (Ok _) e = refl
passed (Err r) e = absurd (search rules)

-- a refusal, with the books b that `map_err` puts beside it
beside : (v : Verdict) (m : Result (Unit {0}) (SendBuffer × Refusal)) (b : SendBuffer) (y : SendBuffer × Refusal) (Q : Refusal → SendBuffer × Refusal → Type 0)
    → MatchResult v (λ x. m ≡ Ok x) (λ r. IsErrAnd m (Q r)) → m ≡ Err y → ((r : Refusal) (d : SendBuffer × Refusal) → Q r d → d ≡ (b, r))
    → (r : Refusal) × (v ≡ Err r) × (y ≡ (b, r))
beside (Ok u) m b y Q h e f = absurd cc
beside (Err r) m b y Q h e f =
    let p = err_from_is_err_and m h in
    let is : p.0 ≡ (b, r) = f r p.0 p.2 in
    let was : m ≡ Err p.0 = p.1 in
    (r, refl, cc)

pub acknowledge-requires : goal.acknowledge-requires
acknowledge-requires c =
    acceptable c.requires.ready _ (sym c.judge.ensures ∙ passed _ c.in_ok-map_err.ensures.variant) _ _ _ refl c.distance-d.ensures

pub returns-in_err-map_err : goal.returns-in_err-map_err
returns-in_err-map_err c =
    let p = err_from_is_err_and c.from_residual.result c.from_residual.ensures.1 in
    let q = beside c.judge.result c.map_err.result c.args.b _ _ c.map_err.ensures.cases c.in_err-map_err.was (λ r d k. search rules) in
    rw (p.1, p.2, q.2) (update-refused _ _ _ _ _ _ c.judge.ensures _ q.1)

pub returns-in_err-map_err-2 : goal.returns-in_err-map_err-2
returns-in_err-map_err-2 c =
    let p = err_from_is_err_and c.from_residual-in_err-map_err-2.result c.from_residual-in_err-map_err-2.ensures.1 in
    let q = beside c.judge_full.result c.map_err-2.result (with c.args.b c.unwrap_or.result c.args.b.expected) _ _ c.map_err-2.ensures.cases c.in_err-map_err-2.was (λ r d k. search rules) in
    rw (p.1, p.2, q.2)
    (update-stale _ _ _ _ _ _ c.judge.ensures (passed _ c.in_ok-map_err.ensures.variant) _ _ (c.unwrap_or.ensures ∙ given-is _ _) refl _ c.judge_full.ensures _ q.1)

pub returns : goal.returns
returns c =
    update-done _ _ _ _ _ _ c.judge.ensures (passed _ c.in_ok-map_err.ensures.variant) _ _ (c.unwrap_or.ensures ∙ given-is _ _) refl _ c.judge_full.ensures
    _ _ (passed _ c.in_ok-map_err-2.ensures.variant) c.distance-d.ensures c.acknowledge.ensures
