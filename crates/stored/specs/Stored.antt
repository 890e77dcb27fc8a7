-- The 64 bytes of a stored call.
--   number bs at     the number of the eight bytes from `at`, the lowest first (crate rules_numbers, Bytes)
--   call bs          the operation and its seven arguments
--   Takes old new r  r is the call that the next 64 bytes of an input hold, and what is left of it is new, where its bytes are known
use Rattle.std.specs.Prelude.{◌≡◌, ℕ, ◌+◌, List, length}
use Rattle.std.specs.Io.KnownBytes.{Consumes}
use Rattle.std.proofs.Math.Seq.{slice}
use Rattle.std.specs.declared.option.Option.{Option}
use Rattle.rules_numbers.specs.Bytes.{from_little}
use Rattle.stored.specs.declared.Record.{Record}

abbrev pub number : List ℕ → ℕ → ℕ
number bs at = from_little (slice at (at + 8) bs)

abbrev pub call : List ℕ → Record
call bs = record {
  operation = number bs 0;
  a = number bs 8;
  b = number bs 16;
  c = number bs 24;
  d = number bs 32;
  e = number bs 40;
  f = number bs 48;
  g = number bs 56;
}

abbrev pub Takes : Option (List ℕ) → Option (List ℕ) → Record → Type 0
Takes old new r = (bs : List ℕ) × (length bs ≡ 64) × Consumes old new bs × (r ≡ call bs)
