-- The book rules of the timers hold after every call that makes or sets them: document 01, "Book rules". A refused call
-- changes nothing. For the checks, see timer_checks, Always.
--   Set a                               the timers in an answer keep the rules
--   new-kept                            so they do after `new`
--   reset-kept, period-kept, rtt-kept   and after a call that sets
use Rattle.std.specs.Prelude.{not, ◌||◌, ℕ, ◌<◌, ◌≤◌, ltb, leb, Result, Ok, Err}
use mathlib.Mathlib.Data.Bool.Basic.{or-eq-false-eq-eq-false-and-eq-false as neither}
use Rattle.std.proofs.Common.{arith, ltb-false, leb-false}
use Rattle.rules_refusals.specs.declared.Refusal.TheVariants.{BadSetting, BadState, BadTime}
use Rattle.rules_refusals.specs.Verdict.{accepted, when}
use Rattle.refusals.specs.Laws.{when-accepted, answer-by}
use Rattle.rules_numbers.specs.declared.Rtt.{Rtt}
use Rattle.rules_timers.specs.Timer.{instant_limit, longest, started}
use Rattle.timer.specs.Laws.{Kept}
use Rattle.rules_timers.specs.Periods.{exp_period}
use Rattle.rules_timers.specs.declared.Timers.{Timers}
use Rattle.rules_timers.specs.Timers.{kept_all, judge, judge_new, judge_period, judge_rtt, new, update_snd_period, update_rtt, reset_exp}
use Rattle.timers.specs.Laws.{KeptAll, accepted-kept, accepted_timed, accepted-ranged}
use Rattle.rules_refusals.specs.declared.Refusal.{Refusal}

abbrev pub Set : Result Timers Refusal → Type 0
Set (Ok ts) = KeptAll ts
Set (Err r) = Unit {0}

started-kept : (now period : ℕ) → now < instant_limit → period ≤ longest → Kept (started now period)
started-kept now period h p = record { origin = h; period = omega arith }

pub new-kept : (now statistics idle : ℕ) → Set (new now statistics idle)
unfolding new judge_new exp_period
new-kept now statistics idle =
    answer-by Set Err (judge_new now statistics idle) _ (λ r. tt)
    (λ e.
    let set = when-accepted (ltb longest statistics || ltb longest idle) BadSetting (when (leb instant_limit now) BadTime accepted) e in
    let h = leb-false instant_limit now (when-accepted (leb instant_limit now) BadTime accepted set.1).0 in
    let short = (neither (ltb longest statistics) (ltb longest idle)).0 set.0 in
    record {
      snd = started-kept now 1_000_000 h (omega arith);
      ack = started-kept now 10_000_000 h (omega arith);
      nak = started-kept now 150_000_000 h (omega arith);
      exp = started-kept now 460_000_000 h (omega arith);
      idle = started-kept now idle h (ltb-false longest idle short.1);
      statistics = started-kept now statistics h (ltb-false longest statistics short.0);
      count = omega arith;
    })

pub reset-kept : (ts : Timers) (now : ℕ) → Set (reset_exp ts now)
unfolding reset_exp
reset-kept ts now =
    answer-by Set Err (judge ts now) _ (λ r. tt)
    (λ e.
    let known = accepted_timed ts now e in
    let k = known.0 in
    record {
      snd = k.snd;
      ack = k.ack;
      nak = k.nak;
      exp = k.exp;
      idle = record { origin = known.1; period = k.idle.period };
      statistics = k.statistics;
      count = omega arith;
    })

pub period-kept : (ts : Timers) (period : ℕ) → Set (update_snd_period ts period)
unfolding update_snd_period judge_period
period-kept ts period =
    answer-by Set Err (judge_period ts period) _ (λ r. tt)
    (λ e.
    let short = when-accepted (ltb longest period) BadSetting (when (not (kept_all ts)) BadState accepted) e in
    let k = accepted-kept ts accepted short.1 in
    record {
      snd = record { origin = k.snd.origin; period = ltb-false longest period short.0 };
      ack = k.ack;
      nak = k.nak;
      exp = k.exp;
      idle = k.idle;
      statistics = k.statistics;
      count = k.count;
    })

pub rtt-kept : (ts : Timers) (rtt : Rtt) → Set (update_rtt ts rtt)
unfolding update_rtt judge_rtt exp_period
rtt-kept ts rtt =
    answer-by Set Err (judge_rtt ts rtt) _ (λ r. tt)
    (λ e.
    let k = accepted-kept ts _ e in
    let r = accepted-ranged ts rtt e in
    record {
      snd = k.snd;
      ack = record { origin = k.ack.origin; period = omega arith };
      nak = record { origin = k.nak.origin; period = omega arith };
      exp = record { origin = k.exp.origin; period = omega arith };
      idle = k.idle;
      statistics = k.statistics;
      count = k.count;
    })
