-- All timers of a connection: document 01, "What the hub takes from the crate": "every timer in `Timers`"; the calls
-- that make and set them. The checks are in Checks, the next wake-up in Wake, the RTT periods in Periods.
--   kept_all ts                                the book rules of the six timers, and an EXP count of at least 1
--   timers ..                                  all timers, from their parts
--   judge, judge_new, judge_period, judge_rtt the refusals of the calls, in the order of their numbers
--   begun, new                                 the timers at the start; the call
--   with_periods ts p                          new periods, with no origin moved
--   update_snd_period, update_rtt, reset_exp   the calls that set
pub mod Examples
use Rattle.std.specs.Prelude.{Bool, not, ◌&&◌, ◌||◌, ℕ, ltb, leb, Result, Ok, Err}
use Rattle.rules_refusals.specs.declared.Refusal.TheVariants.{BadSetting, BadState, BadTime, BadRtt}
use Rattle.rules_refusals.specs.Verdict.{Verdict, accepted, when, answer}
use Rattle.rules_numbers.specs.declared.Rtt.{Rtt}
use Rattle.rules_numbers.specs.Rtt.{start, in_range}
use Rattle.rules_timers.specs.declared.Periods.{Periods}
use Rattle.rules_timers.specs.Periods.{calculate_periods}
use Rattle.rules_timers.specs.declared.Timer.{Timer}
use Rattle.rules_timers.specs.Timer.{instant_limit, longest, kept, timer, started}
use Rattle.rules_timers.specs.declared.Timers.{Timers}
use Rattle.rules_refusals.specs.declared.Refusal.{Refusal}

abbrev pub kept_all : Timers → Bool
kept_all ts =
    kept ts.snd
    && (kept ts.full_ack
    && (kept ts.nak
    && (kept ts.exp
    && (kept ts.peer_idle
    && (kept ts.statistics
    && leb 1 ts.exp_count)))))

abbrev pub timers : Timer → Timer → Timer → Timer → ℕ → Timer → Timer → Timers
timers snd ack nak exp count idle statistics =
    record { snd = snd; full_ack = ack; nak = nak; exp = exp; exp_count = count; peer_idle = idle; statistics = statistics }

unfoldable pub judge : Timers → ℕ → Verdict
judge ts now = when (not (kept_all ts)) BadState (when (leb instant_limit now) BadTime accepted)

unfoldable pub judge_new : ℕ → ℕ → ℕ → Verdict
judge_new now statistics idle = when (ltb longest statistics || ltb longest idle) BadSetting (when (leb instant_limit now) BadTime accepted)

unfoldable pub judge_period : Timers → ℕ → Verdict
judge_period ts period = when (ltb longest period) BadSetting (when (not (kept_all ts)) BadState accepted)

unfoldable pub judge_rtt : Timers → Rtt → Verdict
judge_rtt ts rtt = when (not (kept_all ts)) BadState (when (not (in_range rtt)) BadRtt accepted)

abbrev pub begun : ℕ → ℕ → ℕ → Timers
begun now statistics idle =
    let p = calculate_periods 1 start in
    timers (started now 1_000_000) (started now p.ack) (started now p.nak) (started now p.exp) 1 (started now idle) (started now statistics)

unfoldable pub new : ℕ → ℕ → ℕ → Result Timers Refusal
new now statistics idle = answer Err (judge_new now statistics idle) (Ok (begun now statistics idle))

unfoldable pub update_snd_period : Timers → ℕ → Result Timers Refusal
update_snd_period ts period =
    answer Err (judge_period ts period)
    (Ok (timers (timer period ts.snd.last) ts.full_ack ts.nak ts.exp ts.exp_count ts.peer_idle ts.statistics))

abbrev pub with_periods : Timers → Periods → Timers
with_periods ts p =
    timers ts.snd (timer p.ack ts.full_ack.last) (timer p.nak ts.nak.last) (timer p.exp ts.exp.last) ts.exp_count ts.peer_idle ts.statistics

unfoldable pub update_rtt : Timers → Rtt → Result Timers Refusal
update_rtt ts rtt = answer Err (judge_rtt ts rtt) (Ok (with_periods ts (calculate_periods ts.exp_count rtt)))

unfoldable pub reset_exp : Timers → ℕ → Result Timers Refusal
reset_exp ts now =
    answer Err (judge ts now)
    (Ok (timers ts.snd ts.full_ack ts.nak ts.exp 1 (timer ts.peer_idle.period now) ts.statistics))
