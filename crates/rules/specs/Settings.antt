-- Document 01, "Numbers and their ends": "Settings: first sequence number below 2^31; packet size 1 to 1,456; buffer
-- size 0 to 8,192; flow window 0 to 65,535; TSBPD latency 0 to 65,535,000 µs; wire overhead 0 to 128; socket id any
-- u32."
--   Settings        the seven settings
--   in_range c      whether each is in its range; a socket id always is
--   capacity c      "Capacity is the buffer size, or 1 where that is 0."
--   store_size c    "The store needs capacity × packet size bytes"
--   place_of c k    "the k-th packet ever pushed (from 0) lies at (k mod capacity) × packet size"
--   late_window c   "Window = max(latency + floor(latency / 4), 1,000,000)": a packet older than that is late (this is
--                   not the flow window)
use Rattle.std.specs.Prelude.{Bool, ◌&&◌, ℕ, ◌+◌, ◌*◌, ◌/◌, ◌%◌, ◌^◌, max, ltb, leb}
use Rattle.rules_numbers.specs.Modular.{seqs}
use Rattle.rules_numbers.specs.Limits.{size_most}

pub record Settings : Type 0 where
  pub first : ℕ
  pub size : ℕ
  pub buffer : ℕ
  pub flow : ℕ
  pub latency : ℕ
  pub overhead : ℕ
  pub socket : ℕ

unfoldable pub in_range : Settings → Bool
in_range c =
    ltb c.first seqs && (leb 1 c.size && (leb c.size size_most && (leb c.buffer 8_192 && (leb c.flow 65_535
    && (leb c.latency 65_535_000 && leb c.overhead 128)))))

abbrev pub capacity : Settings → ℕ
capacity c = max 1 c.buffer

abbrev pub store_size : Settings → ℕ
store_size c = capacity c * c.size

abbrev pub place_of : Settings → ℕ → ℕ
place_of c k = k % capacity c * c.size

abbrev pub late_window : Settings → ℕ
late_window c = max (c.latency + c.latency / 4) 1_000_000
