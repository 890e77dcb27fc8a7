-- What the code and the layers above use of the timers.
--   KeptAll ts           the book rules of all timers as facts
--   kept-all, all-kept   the test decides them, both ways
--   accepted-kept, accepted_timed, accepted-ranged
--                        what is known of the timers, the time and the round-trip time of a call that wasn't refused
use Rattle.std.specs.Prelude.{◌≡◌, Bool, true, not, ◌&&◌, ℕ, ◌≤◌, ◌<◌, leb}
use Rattle.std.proofs.Math.Bool.{and-eq-true_iff}
use Rattle.std.proofs.Common.{leb-true, leb-false, le-leb}
use Rattle.std.proofs.lemmas.Bool.{not-false}
use Rattle.rules_refusals.specs.declared.Refusal.TheVariants.{BadState, BadTime, BadRtt}
use Rattle.rules_refusals.specs.Verdict.{Verdict, accepted, when}
use Rattle.refusals.specs.Laws.{when-accepted}
use Rattle.rules_numbers.specs.declared.Rtt.{Rtt}
use Rattle.rules_numbers.specs.Rtt.{in_range, Ranged}
use Rattle.rtt.specs.Laws.{in_range-ranged}
use Rattle.rules_timers.specs.Timer.{instant_limit, kept}
use Rattle.timer.specs.Laws.{Kept, kept_facts, facts_kept}
use Rattle.rules_timers.specs.declared.Timers.{Timers}
use Rattle.rules_timers.specs.Timers.{kept_all, judge, judge_rtt}

pub record KeptAll (ts : Timers) : Type 0 where
  pub snd : Kept ts.snd
  pub ack : Kept ts.full_ack
  pub nak : Kept ts.nak
  pub exp : Kept ts.exp
  pub idle : Kept ts.peer_idle
  pub statistics : Kept ts.statistics
  pub count : 1 ≤ ts.exp_count

-- what two tests that both hold give
both_of : (a b : Bool) → (a && b) ≡ true → (a ≡ true) × (b ≡ true)
both_of a b e = (and-eq-true_iff a b).0 e

pub kept-all : (ts : Timers) → kept_all ts ≡ true → KeptAll ts
kept-all ts e =
    let snd = both_of (kept ts.snd) _ e in
    let ack = both_of (kept ts.full_ack) _ snd.1 in
    let nak = both_of (kept ts.nak) _ ack.1 in
    let exp = both_of (kept ts.exp) _ nak.1 in
    let idle = both_of (kept ts.peer_idle) _ exp.1 in
    let statistics = both_of (kept ts.statistics) _ idle.1 in
    record {
      snd = kept_facts _ snd.0;
      ack = kept_facts _ ack.0;
      nak = kept_facts _ nak.0;
      exp = kept_facts _ exp.0;
      idle = kept_facts _ idle.0;
      statistics = kept_facts _ statistics.0;
      count = leb-true _ _ statistics.1;
    }

pub all-kept : (ts : Timers) → KeptAll ts → kept_all ts ≡ true
all-kept ts k =
    simp (
      facts_kept _ k.snd,
      facts_kept _ k.ack,
      facts_kept _ k.nak,
      facts_kept _ k.exp,
      facts_kept _ k.idle,
      facts_kept _ k.statistics,
      le-leb _ _ k.count,
    )

-- a call that wasn't refused for its timers has timers that keep the rules
pub accepted-kept : (ts : Timers) (v : Verdict) → when (not (kept_all ts)) BadState v ≡ accepted → KeptAll ts
accepted-kept ts v e = kept-all ts (not-false _ (when-accepted (not (kept_all ts)) BadState v e).0)

pub accepted_timed : (ts : Timers) (now : ℕ) → judge ts now ≡ accepted → KeptAll ts × (now < instant_limit)
unfolding judge
accepted_timed ts now e =
    let rest = (when-accepted (not (kept_all ts)) BadState (when (leb instant_limit now) BadTime accepted) e).1 in
    (accepted-kept ts _ e, leb-false instant_limit now (when-accepted (leb instant_limit now) BadTime accepted rest).0)

pub accepted-ranged : (ts : Timers) (rtt : Rtt) → judge_rtt ts rtt ≡ accepted → Ranged rtt
unfolding judge_rtt
accepted-ranged ts rtt e =
    let rest = (when-accepted (not (kept_all ts)) BadState (when (not (in_range rtt)) BadRtt accepted) e).1 in
    in_range-ranged rtt (not-false _ (when-accepted (not (in_range rtt)) BadRtt accepted rest).0)
