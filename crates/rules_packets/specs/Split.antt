-- How a message becomes packets. Document 01, "Message": "It becomes max(1, ceil(length / size)) packets, all full but
-- the last. Place bits: 10 first, 00 middle, 01 last, 11 only one."
--   count size len        how many packets; ceil(a / b) is (a + (b − 1)) / b
--   place_of n k          the place of packet k, from 0, of n
--   start_of, length_of   where the payload of packet k starts in the message, and its length
--   piece_of size len k   packet k
--   nth size len k        packet k, or none where the message has fewer
--   judge size len        refusals 1 and 5: "packet size 1 to 1,456"; "message over 1,048,576 bytes"
--   split, piece          the calls: how many packets, and packet k
use Rattle.std.specs.Prelude.{cond, ℕ, ◌+◌, ◌-◌, ◌*◌, ◌/◌, min, max, ltb, leb, eqb, Option, Some, None, Result, Ok, Err}
use Rattle.rules_numbers.specs.Limits.{size_most, length_most}
use Rattle.rules_refusals.specs.declared.Refusal.TheVariants.{BadSetting, TooLong}
use Rattle.rules_refusals.specs.Verdict.{Verdict, accepted, when, answer}
use Rattle.rules_packets.specs.declared.Place.{Place}
use Rattle.rules_packets.specs.declared.Place.TheVariants.{First, Middle, Last, Only}
use Rattle.rules_packets.specs.declared.Piece.{Piece}
use Rattle.rules_refusals.specs.declared.Refusal.{Refusal}

unfoldable pub count : ℕ → ℕ → ℕ
count size len = max 1 ((len + (size - 1)) / size)

unfoldable pub place_of : ℕ → ℕ → Place
place_of n k = cond (eqb n 1) Only (cond (eqb k 0) First (cond (eqb (k + 1) n) Last Middle))

abbrev pub start_of : ℕ → ℕ → ℕ
start_of size k = k * size

abbrev pub length_of : ℕ → ℕ → ℕ → ℕ
length_of size len k = min size (len - start_of size k)

abbrev pub piece_of : ℕ → ℕ → ℕ → Piece
piece_of size len k = record { place = place_of (count size len) k; start = start_of size k; len = length_of size len k }

unfoldable pub nth : ℕ → ℕ → ℕ → Result (Option Piece) Refusal
nth size len k = cond (leb (count size len) k) (Ok None) (Ok (Some (piece_of size len k)))

unfoldable pub judge : ℕ → ℕ → Verdict
judge size len = when (ltb size 1) BadSetting (when (ltb size_most size) BadSetting (when (ltb length_most len) TooLong accepted))

unfoldable pub split : ℕ → ℕ → Result ℕ Refusal
split size len = answer Err (judge size len) (Ok (count size len))

unfoldable pub piece : ℕ → ℕ → ℕ → Result (Option Piece) Refusal
piece size len k = answer Err (judge size len) (nth size len k)
