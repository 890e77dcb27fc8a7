-- Every time moved by the same amount.
--   later_packet, later   a packet, and a sender, with every time d later
--   resend_later          a resend time d later, if there is one
--   later_action          a record with its time and its stamp d later; waits and drops have none
use Rattle.std.specs.Prelude.{cond, map, ◌+◌, suc, zero, ℕ, eqb}
use Rattle.rules_packets.specs.Header.{stamp}
use Rattle.rules.specs.Records.{Action, is_send}
use Rattle.rules.specs.Sender.{Packet, Sender, put}

unfoldable pub resend_later : ℕ → ℕ → ℕ → ℕ
resend_later d zero r = r
resend_later d (suc n) r = r + d

unfoldable pub later_packet : ℕ → Packet → Packet
later_packet d p = record {
  time = p.time + d;
  message = p.message;
  place = p.place;
  len = p.len;
  count = p.count;
  resend = resend_later d p.count p.resend;
}

unfoldable pub later : ℕ → Sender → Sender
later d s = put s (map (later_packet d) s.packets) s.front s.next s.lost s.bytes

unfoldable pub later_action : ℕ → Action → Action
later_action d a =
    cond (eqb (is_send a.kind) 1)
    (record {
      kind = a.kind;
      flags = a.flags;
      len = a.len;
      number = a.number;
      word = a.word;
      stamp = stamp
          (a.time + d);
      time = a.time + d;
    })
    a
