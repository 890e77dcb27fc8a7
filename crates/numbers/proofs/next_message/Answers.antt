-- `numbers::next_message` meets its contract: the sum wraps at 32 bits and is cut to 26 (`plus_wrapped`).
use Rattle.std.proofs.Common.{refl, ◌^◌}
use Rattle.rules_numbers.specs.Modular.{msgs}
use Rattle.numbers.proofs.Wrapped.{plus_wrapped}
use Rattle.numbers.proofs.next_message.Goals as goal

pub returns : goal.returns
returns c = plus_wrapped msgs (2 ^ 32) c.args.n.0 1 refl
