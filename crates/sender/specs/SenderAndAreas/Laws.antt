-- What the calls use of refusals 2 and 3.
--   Judged, judged   if neither refuses a call, its areas are long enough and its books keep the rules
use Rattle.std.specs.Prelude.{◌≡◌, Bool, true, false, not}
use Rattle.std.proofs.Math.Bool.{and-eq-true_iff}
use Rattle.std.proofs.lemmas.Bool.{not-false}
use Rattle.rules_refusals.specs.declared.Refusal.TheVariants.{BadStore, BadState}
use Rattle.rules_refusals.specs.Verdict.{accepted, when}
use Rattle.refusals.specs.Laws.{when-accepted}
use Rattle.rules_pacing.specs.Kept as Pacing
use Rattle.book_rules.specs.Kept as Buffer
use Rattle.sender.specs.SenderAndAreas.{Books, rules_of, state_of, kept, judge}

pub record Judged (short : Bool) (g : Books) : Type 0 where
  pub long : short ≡ false
  pub kept : kept g ≡ true
  pub buffer : Buffer.kept (rules_of g) (state_of g) ≡ true
  pub pacing : Pacing.kept g.sender.pacing ≡ true

pub judged : (short : Bool) (g : Books) → judge short g ≡ accepted → Judged short g
unfolding judge kept
judged short g e =
    let a = when-accepted short BadStore (when (not (kept g)) BadState accepted) e in
    let b = when-accepted (not (kept g)) BadState accepted a.1 in
    let k = not-false (kept g) b.0 in
    let both = (and-eq-true_iff (Buffer.kept (rules_of g) (state_of g)) (Pacing.kept g.sender.pacing)).0 k in
    record { long = a.0; kept = k; buffer = both.0; pacing = both.1 }
