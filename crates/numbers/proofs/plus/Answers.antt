-- `numbers::plus` meets its contract: the sum wraps at 32 bits and is cut to 31 (`plus_wrapped`).
use Rattle.std.proofs.Common.{refl, ◌^◌}
use Rattle.rules_numbers.specs.Modular.{seqs}
use Rattle.numbers.proofs.Wrapped.{plus_wrapped}
use Rattle.numbers.proofs.plus.Goals as goal

pub returns : goal.returns
returns c = plus_wrapped seqs (2 ^ 32) c.args.from.0 c.args.k refl
