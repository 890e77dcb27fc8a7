-- `encapsulate::judge` meets its contract: the tests are those of the definition, in its order.
use Rattle.std.proofs.Common.{rules, lt-ltb, le-ltb}
use Rattle.rules_packets.specs.Split.{judge}
use Rattle.encapsulate.proofs.judge.Goals as goal

pub returns-then-size-lt1 : goal.returns-then-size-lt1
unfolding judge
returns-then-size-lt1 c = search (rules, lt-ltb, le-ltb)

pub returns-then-len-gt-LENGTH_MOST : goal.returns-then-len-gt-LENGTH_MOST
unfolding judge
returns-then-len-gt-LENGTH_MOST c = search (rules, lt-ltb, le-ltb)

pub returns : goal.returns
unfolding judge
returns c = search (rules, lt-ltb, le-ltb)
