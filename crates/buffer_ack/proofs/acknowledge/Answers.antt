-- `buffer_ack::acknowledge` meets its contract: what `remove` leaves, with the expected full number after this one
-- (`done-is`).
use Rattle.std.proofs.Common.{refl, rules, ◌≡◌}
use Rattle.rules.specs.Ack.{expect}
use Rattle.buffer_ack.specs.Ack.Laws.{lost-less, done-is, expects}
use Rattle.buffer_ack.proofs.acknowledge.Goals as goal

pub overflow_sub-recovered : goal.overflow_sub-recovered
overflow_sub-recovered c = lost-less c.remove-after.ensures

pub returns : goal.returns
returns c =
    let e : c.map_or.result ≡ expect c.args.full_ack c.remove-after.result.expected =
    expects _ _ _ (search rules) in
    done-is c.remove-after.ensures _ _ _ _ _ _ c.wire_sizes-gone.ensures refl e refl
