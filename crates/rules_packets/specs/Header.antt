-- The 16 header bytes of a data packet. Document 01, "Header" (the draft, section 3.1): "big-endian: 0 and number; place 2 bits, order 0,
-- key 00, retransmitted, message 26; stamp; socket id."
--     31 30 29 28 27 26 25                                  0
--    | 0 |               sequence number                    |
--    | place | 0 | 0 0 | r |     message number             |
--    |                     stamp                            |
--    |                   socket id                          |
--   place_bits p          "10 first, 00 middle, 01 last, 11 only one"
--   bit r                 a flag as a bit
--   second p r m          the second word, with the low 26 bits of the message number
--   header p r n m t id   the sixteen bytes, each word with its highest byte first (crate rules_numbers, Bytes), with the low 31 bits of the number
--   stamp t               "a packet's stamp is the low 32 bits of its message's time"
use Rattle.std.specs.Prelude.{ℕ, ◌+◌, ◌*◌, ◌%◌, ◌^◌, Bool, true, false, List, ◌++◌}
use Rattle.rules_numbers.specs.Bytes.{big}
use Rattle.rules_packets.specs.declared.Place.{Place}
use Rattle.rules_packets.specs.declared.Place.TheVariants.{First, Middle, Last, Only}

abbrev pub place_bits : Place → ℕ
place_bits First = 2
place_bits Middle = 0
place_bits Last = 1
place_bits Only = 3

abbrev pub bit : Bool → ℕ
bit true = 1
bit false = 0

abbrev pub second : Place → Bool → ℕ → ℕ
second place again message = place_bits place * 2 ^ 30 + bit again * 2 ^ 26 + message % 2 ^ 26

abbrev pub header : Place → Bool → ℕ → ℕ → ℕ → ℕ → List ℕ
header place again number message stamp id = big 4 (number % 2 ^ 31) ++ big 4 (second place again message) ++ big 4 stamp ++ big 4 id

abbrev pub stamp : ℕ → ℕ
stamp time = time % 2 ^ 32
