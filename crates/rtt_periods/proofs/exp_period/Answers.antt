-- `rtt_periods::exp_period` meets its contract: the larger of the two, taken `count` times, is the larger of the two
-- products (`times-max`), and holding at 2^64 − 1 before the longest period changes nothing.
use Rattle.std.proofs.Common.{arith}
use Rattle.rules_timers.specs.Periods.{exp_period}
use Rattle.rtt_periods.specs.Laws.{times-max}
use Rattle.rtt_periods.proofs.exp_period.Goals as goal

pub returns : goal.returns
unfolding exp_period
returns c = rw (c.min.ensures, c.saturating_mul.ensures, c.max-one.ensures, times-max) (omega arith)
