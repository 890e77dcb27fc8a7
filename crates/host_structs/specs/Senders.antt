-- A sender's kept fields as numbers. Document 01, "Book rules": "every other kept field in the range given here": a
-- field for a case has certain numbers, and fields that a case doesn't use are 0; other numbers are read as a field out
-- of its range.
--   flushed_of, held_from, no_packet   the flushed packet: 1 and its numbers, or all 0; a packet out of range
--   next_of, begun_from, time_from     pacing's next: 1 and its time, or both 0
--   mode_of, code_from, rate_from, overhead_from
--                                   the bandwidth mode: 0 input, 1 estimated, 2 maximum, 3 unlimited, and its rates
--   control_of, pacing_from            what pacing keeps
--   buffer_of, books_from              what the send buffer keeps
--   sender_of, flat_from               all of it
use Rattle.std.specs.Prelude.{cond, ◌&&◌, ℕ, eqb, Option, Some, None}
use Rattle.rules_pacing.specs.declared.LiveBandwidthMode.{LiveBandwidthMode}
use Rattle.rules_pacing.specs.declared.LiveBandwidthMode.TheVariants.{Input, Estimated, Max, Unlimited}
use Rattle.rules_pacing.specs.declared.SenderCongestionControl.{SenderCongestionControl}
use Rattle.rules_pacing.specs.Kept.{control}
use Rattle.buffer.specs.declared.SendBuffer.{SendBuffer}
use Rattle.sender.specs.declared.Sender.{Sender}
use Rattle.host_structs.specs.declared.senders.HeldPacket.{HeldPacket}
use Rattle.host_structs.specs.declared.senders.FlatBooks.{FlatBooks}
use Rattle.host_structs.specs.declared.pacings.FlatPacing.{FlatPacing}
use Rattle.host_structs.specs.declared.senders.FlatSender.{FlatSender}
use Rattle.buffer.specs.State.{flushed_packet}
use Rattle.buffer.specs.declared.FlushedPacket.{FlushedPacket}

-- ## The flushed packet

-- 2^32 - 1 is not a sequence number
abbrev pub no_packet : Option FlushedPacket
no_packet = Some (flushed_packet (record { 0 = 0xffff_ffff }) 0 0)

unfoldable pub flushed_of : HeldPacket → Option FlushedPacket
flushed_of h =
    cond (eqb h.held 1) (Some (flushed_packet (record { 0 = h.number }) h.slot h.len))
    (cond (eqb h.held 0 && eqb h.number 0 && eqb h.slot 0 && eqb h.len 0) None no_packet)

abbrev pub held_from : Option FlushedPacket → HeldPacket
held_from None = record { held = 0; number = 0; slot = 0; len = 0 }
held_from (Some p) = record { held = 1; number = p.number.0; slot = p.slot; len = p.len }

-- ## Pacing

-- 2^64 - 1 is over the limit of next, and over a rate's
unfoldable pub next_of : ℕ → ℕ → Option ℕ
next_of begun next = cond (eqb begun 1) (Some next) (cond (eqb begun 0 && eqb next 0) None (Some 0xffff_ffff_ffff_ffff))

abbrev pub begun_from : Option ℕ → ℕ
begun_from None = 0
begun_from (Some next) = 1

abbrev pub time_from : Option ℕ → ℕ
time_from None = 0
time_from (Some next) = next

unfoldable pub mode_of : ℕ → ℕ → ℕ → LiveBandwidthMode
mode_of mode rate overhead =
    cond (eqb mode 0) (Input rate overhead)
    (cond (eqb mode 1) (Estimated rate overhead)
    (cond (eqb mode 2 && eqb overhead 0) (Max rate)
    (cond (eqb mode 3 && eqb rate 0 && eqb overhead 0) Unlimited (Max 0xffff_ffff_ffff_ffff))))

abbrev pub code_from : LiveBandwidthMode → ℕ
code_from (Input rate overhead) = 0
code_from (Estimated expected overhead) = 1
code_from (Max rate) = 2
code_from Unlimited = 3

abbrev pub rate_from : LiveBandwidthMode → ℕ
rate_from (Input rate overhead) = rate
rate_from (Estimated expected overhead) = expected
rate_from (Max rate) = rate
rate_from Unlimited = 0

abbrev pub overhead_from : LiveBandwidthMode → ℕ
overhead_from (Input rate overhead) = overhead
overhead_from (Estimated expected overhead) = overhead
overhead_from (Max rate) = 0
overhead_from Unlimited = 0

abbrev pub control_of : FlatPacing → SenderCongestionControl
control_of p = control (next_of p.begun p.next) p.packets p.bytes (mode_of p.mode p.rate p.overhead)

abbrev pub pacing_from : SenderCongestionControl → FlatPacing
pacing_from c = record {
  mode = code_from c.bandwidth_mode;
  begun = begun_from c.next;
  rate = rate_from c.bandwidth_mode;
  overhead = overhead_from c.bandwidth_mode;
  next = time_from c.next;
  packets = c.packets;
  bytes = c.bytes;
}

-- ## The send buffer

abbrev pub buffer_of : FlatBooks → SendBuffer
buffer_of b = record {
  ring = b.ring;
  front = record { 0 = b.front };
  sent = b.sent;
  lost = b.lost;
  bytes = b.bytes;
  rtt = b.rtt;
  message = record { 0 = b.message };
  expected = b.expected;
  flushed = flushed_of b.held;
}

abbrev pub books_from : SendBuffer → FlatBooks
books_from b = record {
  ring = b.ring;
  front = b.front.0;
  sent = b.sent;
  lost = b.lost;
  bytes = b.bytes;
  rtt = b.rtt;
  expected = b.expected;
  held = held_from b.flushed;
  message = b.message.0;
}

-- ## All of it

unfoldable pub sender_of : FlatSender → Sender
sender_of f = record { settings = f.settings; buffer = buffer_of f.books; pacing = control_of f.pacing }

unfoldable pub flat_from : Sender → FlatSender
flat_from s = record { settings = s.settings; books = books_from s.buffer; pacing = pacing_from s.pacing }
