-- A packet's place from its bits, as in a run's records. Document 01, "Message": "Place bits: 10 first, 00 middle, 01
-- last, 11 only one."
--   place_of bits   the place given by the low two bits
use Rattle.std.specs.Prelude.{cond, ℕ, ◌%◌, eqb}
use Rattle.rules_packets.specs.declared.Place.{Place}
use Rattle.rules_packets.specs.declared.Place.TheVariants.{First, Middle, Last, Only}

unfoldable pub place_of : ℕ → Place
place_of bits = cond (eqb (bits % 4) 0) Middle (cond (eqb (bits % 4) 1) Last (cond (eqb (bits % 4) 2) First Only))
