-- Document 01, "Figures from the bench": all that are marked *, in one table computed from the definitions.
use Rattle.std.specs.Prelude.{◌≡◌, refl, false, List, [], ◌∷◌, map, ℕ, replicate}
use Rattle.rules_packets.specs.Header.{place_bits}
use Rattle.rules_packets.specs.declared.Place.TheVariants.{Only}
use Rattle.rules_pacing.specs.declared.LiveBandwidthMode.TheVariants.{Unlimited}
use Rattle.rules.specs.Calls.{answer, calls, message, records, runs}
use Rattle.rules.specs.Computing.{computes}
use Rattle.rules.specs.Records.{Action, code, encode, header_of}
use Rattle.rules.specs.Run.{base}
use Rattle.rules.specs.Sender.{Packet, Sender, fresh}
use Rattle.rules.specs.Settings.{Settings, late_window}

-- "Size 4, buffer 4, first number 15, window 8"
abbrev four : Settings
four = record { first = 15; size = 4; buffer = 4; flow = 8; latency = 120_000; overhead = 0; socket = 0x1122_3344 }

-- a message of n bytes at 1,000, and the packets that it becomes
abbrev given : ℕ → Sender
given n = calls four (message 1_000 1_000 (replicate n 0) ∷ []) (fresh four Unlimited)

abbrev places : ℕ → List ℕ
places n = map (λ (p : Packet). place_bits p.place) (given n).packets

-- one packet sent at 1,000, and what a run does then
abbrev once : Sender
once = calls four (runs 1_000 1 false 4 ∷ []) (given 4)

abbrev run_at : ℕ → Sender → List Action
run_at now s = records (answer four (runs now 1 false 4) s)

abbrev kinds_at : ℕ → List ℕ
kinds_at now = map (λ (a : Action). code a.kind) (run_at now once)

abbrev late : ℕ → ℕ
late latency = late_window (record { first = 0; size = 1; buffer = 0; flow = 0; latency = latency; overhead = 0; socket = 0 })

abbrev only : ℕ → Packet
only n = record { time = 1_000; message = 0; place = Only; len = 4; count = n; resend = 0 }

pub record Figures : Type 0 where
  -- "Size 4: lengths 0 and 4 give one packet (place 11); 5 and 8 give two."
  pub bytes-none : places 0 ≡ 0b11 ∷ []
  pub bytes-four : places 4 ≡ 0b11 ∷ []
  pub bytes-five : places 5 ≡ 0b10 ∷ 0b01 ∷ []
  pub bytes-eight : places 8 ≡ 0b10 ∷ 0b01 ∷ []
  -- "Latency 120,000: window 1,000,000; latency 1,000,000: 1,250,000."
  pub late-short : late 120_000 ≡ 1_000_000
  pub late-long : late 1_000_000 ≡ 1_250_000
  -- "Start RTT: C = 320,000. Sent at 1,000: not due at 321,000, due at 321,001; resent then, its next resend time is
  -- 651,001."
  pub wait-base : base (fresh four Unlimited) ≡ 320_000
  pub due-not_yet : kinds_at 321_000 ≡ 5 ∷ []
  pub due-then : kinds_at 321_001 ≡ 2 ∷ []
  pub resend-next : map (λ (p : Packet). p.resend) (calls four (runs 321_001 1 false 4 ∷ []) once).packets ≡ 651_001 ∷ []
  -- "Number 5, only packet of message 0, stamp 1,000, id 0x11223344: 00000005 C0000000 000003E8 11223344; resent,
  -- second word C4000000."
  pub header-first : header_of four 5 (only 0)
      ≡ 0x00 ∷ 0x00 ∷ 0x00 ∷ 0x05 ∷ 0xC0 ∷ 0x00 ∷ 0x00 ∷ 0x00 ∷ 0x00 ∷ 0x00 ∷ 0x03 ∷ 0xE8 ∷ 0x11 ∷ 0x22 ∷ 0x33 ∷ 0x44 ∷ []
  pub header-again : header_of four 5 (only 1)
      ≡ 0x00 ∷ 0x00 ∷ 0x00 ∷ 0x05 ∷ 0xC4 ∷ 0x00 ∷ 0x00 ∷ 0x00 ∷ 0x00 ∷ 0x00 ∷ 0x03 ∷ 0xE8 ∷ 0x11 ∷ 0x22 ∷ 0x33 ∷ 0x44 ∷ []
  -- "ten bytes at 1,000; run at 1,000 with p = 1 writes exactly, in hex, 01800400 0F000000 00000000 E8030000
  -- E803000000000000 and 01000400 10000000 00000000 E8030000 E803000000000000."
  pub records-two : map encode (run_at 1_000 (given 10))
      ≡ (0x01 ∷ 0x80 ∷ 0x04 ∷ 0x00 ∷ 0x0F ∷ 0x00 ∷ 0x00 ∷ 0x00 ∷ 0x00 ∷ 0x00 ∷ 0x00 ∷ 0x00
      ∷ 0xE8 ∷ 0x03 ∷ 0x00 ∷ 0x00 ∷ 0xE8 ∷ 0x03 ∷ 0x00 ∷ 0x00 ∷ 0x00 ∷ 0x00 ∷ 0x00 ∷ 0x00 ∷ [])
      ∷ (0x01 ∷ 0x00 ∷ 0x04 ∷ 0x00 ∷ 0x10 ∷ 0x00 ∷ 0x00 ∷ 0x00 ∷ 0x00 ∷ 0x00 ∷ 0x00 ∷ 0x00
      ∷ 0xE8 ∷ 0x03 ∷ 0x00 ∷ 0x00 ∷ 0xE8 ∷ 0x03 ∷ 0x00 ∷ 0x00 ∷ 0x00 ∷ 0x00 ∷ 0x00 ∷ 0x00 ∷ [])
      ∷ []

pub figures : Figures
unfolding computes
figures = record {
  bytes-none = refl;
  bytes-four = refl;
  bytes-five = refl;
  bytes-eight = refl;
  late-short = refl;
  late-long = refl;
  wait-base = refl;
  due-not_yet = refl;
  due-then = refl;
  resend-next = refl;
  header-first = refl;
  header-again = refl;
  records-two = refl;
}
