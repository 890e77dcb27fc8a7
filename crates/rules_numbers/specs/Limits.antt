-- The ends that document 01 names in several places, each once.
--   time_limit      "Times are whole microseconds below 2^48 since start"
--   size_most       "packet size 1 to 1,456"
--   length_most     refusal 5: "message over 1,048,576 bytes"
--   bytes_limit     "byte count below 2^62"
--   transmit_most   "a transmit count of at least 1 (held at 65,535)"
pub mod Examples
use Rattle.std.specs.Prelude.{ℕ, ◌^◌}

abbrev pub time_limit : ℕ
time_limit = 2 ^ 48

abbrev pub size_most : ℕ
size_most = 1_456

abbrev pub length_most : ℕ
length_most = 1_048_576

abbrev pub bytes_limit : ℕ
bytes_limit = 2 ^ 62

abbrev pub transmit_most : ℕ
transmit_most = 65_535
