-- `numbers::distance` meets its contract: the difference wraps at 32 bits, and the remainder cuts it to 31
-- (`dist_wrapped`).
use Rattle.std.proofs.Common.{rules, lit<, refl, ◌^◌, ◌≤◌}
use Rattle.rules_numbers.specs.Modular.{seqs}
use Rattle.numbers.proofs.Wrapped.{dist_wrapped}
use Rattle.numbers.proofs.distance.Goals as goal

pub returns : goal.returns
returns c =
    let a = c.args in
    let word : a.from.0 ≤ 2 ^ 32 = search rules in
    dist_wrapped seqs (2 ^ 32) a.from.0 a.to.0 (lit< tt) refl word
