-- Two tests that both hold.
--   and_l, and_r, and_both   if both hold, each does, and conversely
use Rattle.std.specs.Prelude.{◌≡◌, refl, Bool, true, false, ◌&&◌}

pub and_l : (a b : Bool) → (a && b) ≡ true → a ≡ true
and_l true b e = refl
and_l false b e = e

pub and_r : (a b : Bool) → (a && b) ≡ true → b ≡ true
and_r true b e = e
and_r false b e = cc

pub and_both : (a b : Bool) → a ≡ true → b ≡ true → (a && b) ≡ true
and_both true b p q = q
and_both false b p q = p
