-- New books represent a new sender, in any areas that are long enough.
--   fresh-stands   `SendBuffer::new` represents `fresh` of the rules
use Rattle.std.specs.Prelude.{◌≡◌, refl, true, List, ℕ, ◌*◌, ◌≤◌, length}
use Rattle.std.proofs.Common.{sym, mod-eq_of_lt, arith}
use Rattle.rules_pacing.specs.declared.LiveBandwidthMode.{LiveBandwidthMode}
use Rattle.ring.specs.Ring.{packets}
use Rattle.loss_list.specs.LossList.Stands.{stands-none}
use Rattle.rules.specs.Settings.{Settings, in_range, capacity}
use Rattle.rules.specs.Sender as rules
use Rattle.buffer.specs.State.{state, packets_of, fresh}
use Rattle.buffer.specs.State.Stands.{Stands}
use Rattle.buffer.specs.State.Facts.{range_facts}

pub fresh-stands : (c : Settings) (mode : LiveBandwidthMode) (ring lost : List ℕ) → in_range c ≡ true → capacity c * 6 ≤ length ring → capacity c ≤ length lost
    → Stands c (state (fresh c) ring lost) (rules.fresh c mode)
unfolding rules.fresh packets_of packets
fresh-stands c mode ring lost e area room =
    let f = range_facts c e in
    record {
      placed = record { cap = omega (arith, f.buffer); slot = omega arith; len = omega arith; area = area };
      cap = refl;
      room = room;
      packets = refl;
      places = λ i h. absurd (omega arith);
      front = sym (mod-eq_of_lt f.first);
      next = omega arith;
      count = refl;
      lost = stands-none c.first;
      bytes = refl;
      others = record { rtt = refl; message = refl; expected = refl; held = tt };
      turns = 0;
      pushed = omega arith;
    }
