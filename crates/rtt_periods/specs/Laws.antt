-- Laws of the periods.
--   times-max            the larger of two, taken count times: what the code uses
--   exp-held, exp-free   EXP's period by one division: held if the count is too large for the longest period, else
--                        multiplied. No code uses these two now: it multiplies, held at 2^64 − 1, and takes the least
use Rattle.std.specs.Prelude.{◌≡◌, ℕ, ◌*◌, ◌/◌, ◌≤◌, ◌<◌, min, max}
use Rattle.std.proofs.Common.{div-lt_iff_lt-mul, le-div_iff_mul-le, mul-le-mul_left, arith}
use Rattle.std.proofs.Math.Nat.{max-eq_left, max-eq_right}
use Rattle.std.proofs.Math.Decide.{dec_le}

pub times-max : (count a b : ℕ) → max (count * a) (count * b) ≡ count * max a b
times-max count a b = by (dec_le a b)
  where
    by : Dec (a ≤ b) → max (count * a) (count * b) ≡ count * max a b
    by (yes h) = let more = mul-le-mul_left count h in rw (max-eq_right h, max-eq_right more)
    by (no h) =
        let less : b ≤ a = omega arith in
        let more = mul-le-mul_left count less in
        rw (max-eq_left less, max-eq_left more)

pub exp-held : (most count a b : ℕ) → 0 < max a b → most / max a b < count → most ≡ min most (max (count * a) (count * b))
exp-held most count a b pos h = let over = (div-lt_iff_lt-mul pos).0 h in rw times-max (omega arith)

pub exp-free : (most count a b : ℕ) → 0 < max a b → count ≤ most / max a b → count * max a b ≡ min most (max (count * a) (count * b))
exp-free most count a b pos h = let under = (le-div_iff_mul-le pos).0 h in rw times-max (omega arith)
