-- What the layers above use of a round-trip time's range.
--   in_range-ranged, ranged-in_range   the test decides the facts, both ways
use Rattle.std.specs.Prelude.{◌≡◌, true, leb}
use Rattle.std.proofs.Math.Bool.{and-eq-true_iff}
use Rattle.std.proofs.Common.{leb-true, le-leb}
use Rattle.rules_numbers.specs.declared.Rtt.{Rtt}
use Rattle.rules_numbers.specs.Rtt.{in_range, Ranged}

pub in_range-ranged : (r : Rtt) → in_range r ≡ true → Ranged r
in_range-ranged r e =
    let both = (and-eq-true_iff (leb r.mean 100_000_000) (leb r.variance 100_000_000)).0 e in
    record { mean = leb-true _ _ both.0; variance = leb-true _ _ both.1 }

pub ranged-in_range : (r : Rtt) → Ranged r → in_range r ≡ true
ranged-in_range r h = simp (le-leb _ _ h.mean, le-leb _ _ h.variance)
