-- What the code and the layer above use of a message's packets.
--   Sized size len         size and length within their ranges; judge-sized   as an accepted call has them
--   Counted size len n     n is the count, at least 1 and at most 1,048,576
--   Cut size len n k       packet k of the n of a message
--   start-within           a packet begins within its message
--   length-full            "all full but the last"
--   length_last            the last one ends with the message
use Rattle.std.specs.Prelude.{◌≡◌, ℕ, ◌+◌, ◌-◌, ◌*◌, ◌/◌, ◌≤◌, ◌<◌, max, ltb}
use Rattle.std.proofs.Common.{zero-le, le-div_iff_mul-le, div-lt_iff_lt-mul, mul-le-mul_left, add-mul, one-mul, mul-one, zero-mul, arith, ltb-false}
use Rattle.std.proofs.Math.Decide.{dec_le}
use Rattle.rules_refusals.specs.declared.Refusal.TheVariants.{BadSetting, TooLong}
use Rattle.rules_refusals.specs.Verdict.{accepted, when}
use Rattle.refusals.specs.Laws.{when-accepted}
use Rattle.rules_packets.specs.Split.{count, judge, start_of, length_of}

pub record Sized (size len : ℕ) : Type 0 where
  pub low : 1 ≤ size
  pub high : size ≤ 1_456
  pub short : len ≤ 1_048_576

pub record Counted (size len n : ℕ) : Type 0 where
  pub is : n ≡ count size len
  pub low : 1 ≤ n
  pub high : n ≤ 1_048_576

pub record Cut (size len n k : ℕ) : Type 0 where
  pub sized : Sized size len
  pub is : n ≡ count size len
  pub within : k < n
  pub few : n ≤ 1_048_576

pub judge-sized : (size len : ℕ) → judge size len ≡ accepted → Sized size len
unfolding judge
judge-sized size len e =
    let low = when-accepted (ltb size 1) BadSetting (when (ltb 1_456 size) BadSetting (when (ltb 1_048_576 len) TooLong accepted)) e in
    let high = when-accepted (ltb 1_456 size) BadSetting (when (ltb 1_048_576 len) TooLong accepted) low.1 in
    let short = when-accepted (ltb 1_048_576 len) TooLong accepted high.1 in
    record { low = ltb-false _ _ low.0; high = ltb-false _ _ high.0; short = ltb-false _ _ short.0 }

-- ceil(len / size) is at most len, where size is at least 1
ceil_within : (size len : ℕ) → 1 ≤ size → (len + (size - 1)) / size ≤ len
ceil_within size len h =
    let wide = mul-le-mul_left len h in
    let below = (div-lt_iff_lt-mul {k = size} {x = len + (size - 1)} {y = len + 1} h).1 (omega (arith, add-mul len 1 size, one-mul size, mul-one len)) in
    omega arith

pub count-within : (size len n : ℕ) → Sized size len → n ≡ max 1 ((len + (size - 1)) / size) → Counted size len n
unfolding count
count-within size len n s e = let up = ceil_within size len s.low in record { is = e; low = omega arith; high = omega arith }

pub start-within : (size len k : ℕ) → 1 ≤ size → k < count size len → start_of size k ≤ len
unfolding count
start-within size len k h w = by (dec_le 1 ((len + (size - 1)) / size))
  where
    by : Dec (1 ≤ (len + (size - 1)) / size) → k * size ≤ len
    by (yes p) =
        let up = (le-div_iff_mul-le {k = size} {x = k + 1} {y = len + (size - 1)} h).0 (omega arith) in
        omega (arith, add-mul k 1 size, one-mul size)
    by (no p) = let none : k ≡ 0 = omega arith in rw (none, zero-mul) zero-le

pub length-full : (size len k : ℕ) → 1 ≤ size → k + 1 < count size len → length_of size len k ≡ size
length-full size len k h w = let next = start-within size len (k + 1) h w in omega (arith, add-mul k 1 size, one-mul size)

pub length_last : (size len k : ℕ) → 1 ≤ size → k + 1 ≡ count size len → start_of size k + length_of size len k ≡ len
unfolding count
length_last size len k h e =
    let here = start-within size len k h (omega arith) in
    let up = (div-lt_iff_lt-mul {k = size} {x = len + (size - 1)} {y = k + 2} h).0 (omega arith) in
    omega (arith, add-mul k 2 size)
