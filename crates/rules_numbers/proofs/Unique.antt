-- The distance is the one number that leads from a to b: it follows from the laws of specs/Modular/Laws.
--   dist_unique   what is below m and leads from a to b is the distance, and nothing else is
use Rattle.std.proofs.Common.{◌≡◌, ℕ, ◌<◌, sym, ap, ◌∙◌}
use Rattle.rules_numbers.specs.Modular.{plus, dist}
use Rattle.rules_numbers.specs.Modular.Laws.{dist-plus}

pub dist_unique : (m a b k : ℕ) → k < m → plus m a k ≡ b → dist m a b ≡ k
dist_unique m a b k h e = ap (dist m a) (sym e) ∙ dist-plus m a k h
