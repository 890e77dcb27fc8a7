-- What a caller learns of a timer that is lent.
--   LendsTimer ts w t   t, the timer of ts that a check w concerns: ts end with what is last written to t in its place
use Rattle.std.specs.Borrow.{Lends, MutBor, Fml}
use Rattle.rules_timers.specs.declared.Timer.{Timer}
use Rattle.rules_timers.specs.declared.Timers.{Timers}
use Rattle.rules_timers.specs.declared.Which.{Which}
use Rattle.rules_timers.specs.Checks.{with_timer}
use Rattle.rules_timers.specs.contracts.Timer as timer_row
use Rattle.rules_timers.specs.contracts.Timers as timers_row

abbrev pub LendsTimer : MutBor Timers → Which → MutBor Timer → Fml
LendsTimer ts w t = Lends timers_row.the_row timer_row.the_row ts t (λ n. with_timer w n ts.now)
