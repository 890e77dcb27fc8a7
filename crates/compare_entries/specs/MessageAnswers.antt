-- The answers of splitting as numbers.
--   packets_of a   0 and the number of packets, or the refusal's number
--   nothing n      no packet, with refusal n or 0
--   found p        0, found, and the packet's place bits, start and length; or 0 and not found
--   piece_of a     the same, or the refusal's number
use Rattle.std.specs.Prelude.{true, false, ℕ, Option, Some, None, Result, Ok, Err}
use Rattle.rules_refusals.specs.Table.{number_of}
use Rattle.rules_packets.specs.Header.{place_bits}
use Rattle.compare_entries.specs.declared.of_message.PacketsAnswer.{PacketsAnswer}
use Rattle.compare_entries.specs.declared.of_message.PieceAnswer.{PieceAnswer}
use Rattle.rules_refusals.specs.declared.Refusal.{Refusal}
use Rattle.rules_packets.specs.declared.Piece.{Piece}

unfoldable pub packets_of : Result ℕ Refusal → PacketsAnswer
packets_of (Ok n) = record { refusal = 0; packets = n }
packets_of (Err refusal) = record { refusal = number_of refusal; packets = 0 }

abbrev pub nothing : ℕ → PieceAnswer
nothing refusal = record { refusal = refusal; found = false; place = 0; start = 0; len = 0 }

abbrev pub found : Option Piece → PieceAnswer
found (Some p) = record { refusal = 0; found = true; place = place_bits p.place; start = p.start; len = p.len }
found None = nothing 0

unfoldable pub piece_of : Result (Option Piece) Refusal → PieceAnswer
piece_of (Ok p) = found p
piece_of (Err refusal) = nothing (number_of refusal)
