-- `octets::little_at` meets its contract: the bytes are copied in front of zeros, which add nothing.
use Rattle.std.proofs.Common.{arith, w64, ◌≡◌, ◌∙◌, ◌+◌, ap, length}
use Rattle.std.proofs.Math.Seq.{slice, length-slice}
use Rattle.std.proofs.lemmas.Slice.{between_is}
use Rattle.rules_numbers.specs.Bytes.{from_little}
use Rattle.octets.specs.Laws.{from_le-padded, from_little-below, slice-bytes}
use Rattle.octets.proofs.little_at.Goals as goal
use Rattle.octets.proofs.little_at.Goals.{After-from_le_bytes}

module _ (c : After-from_le_bytes) where
  part : c.copy_from_slice.new.self ≡ slice c.args.at (c.args.at + c.args.w) c.args.bytes.now
  part = c.copy_from_slice.ensures.after ∙ between_is c.args.bytes.now c.args.at (c.args.at + c.args.w)

  long : length c.copy_from_slice.new.self ≡ c.args.w
  long = rw part (length-slice c.args.at (c.args.at + c.args.w) c.args.bytes.now c.requires.w_in_bounds ∙ omega arith)

  value : c.from_le_bytes.result ≡ from_little c.copy_from_slice.new.self
  value = c.from_le_bytes.ensures ∙ rw (← long) (from_le-padded w64 c.copy_from_slice.new.self (omega (arith, long)) (omega arith))

pub returns-clause-value : goal.returns-clause-value
returns-clause-value c = value c ∙ ap from_little (part c)

pub returns-clause-upper_bound : goal.returns-clause-upper_bound
returns-clause-upper_bound c =
    let a = c.args in
    let bytes = slice-bytes a.at (a.at + a.w) a.bytes.now (λ i. (c.type_inv.bytes i).fits) in
    let below = from_little-below c.copy_from_slice.new.self (rw (part c) bytes) in
    rw (value c) (rw (long c) at below)
