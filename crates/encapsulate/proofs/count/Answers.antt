-- `encapsulate::count` meets its contract: the larger of 1 and the quotient, which is at most the length (`count-within`).
use Rattle.std.proofs.Common.{◌≡◌, ℕ, ◌+◌, ◌-◌, ◌/◌, ◌%◌, ◌≤◌, min, max, arith, ap, ◌∙◌, le-div_iff_mul-le, div-lt_iff_lt-mul, add-mul}
use Rattle.std.proofs.lemmas.Grind.{div_ceil_times}
use native.Mathlib.Nat.{max_comm}
use Rattle.encapsulate.specs.Laws.{count-within}
use Rattle.encapsulate.proofs.count.Goals as goal

-- `div_ceil` is the definition's ceil(len / size)
ceil : (size len : ℕ) → 1 ≤ size → len / size + min 1 (len % size) ≡ (len + (size - 1)) / size
ceil size len h =
    let up = len / size + min 1 (len % size) in
    let times = div_ceil_times len size h in
    let low = (le-div_iff_mul-le {k = size} {x = up} {y = len + (size - 1)} h).1 (omega (arith, times.0, times.1)) in
    let high = (div-lt_iff_lt-mul {k = size} {x = len + (size - 1)} {y = up + 1} h).1 (omega (arith, times.0, add-mul up 1 size)) in
    omega (arith, low, high)

pub returns : goal.returns
returns c =
    let a = c.args in
    count-within a.size a.len _ c.requires
    (c.max.ensures ∙ max_comm c.div_ceil.result 1 ∙ ap (max 1) (c.div_ceil.ensures ∙ ceil a.size a.len c.requires.low))
