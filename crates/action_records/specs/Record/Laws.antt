-- What a record's bytes are.
--   first4 bs rest, first8 bs   the first elements of a field's bytes, before the rest
--   bytes-encode                the kind, the flags and the bytes of each field make the rules' record
use Rattle.std.specs.Prelude.{◌≡◌, List, [], ◌∷◌, ℕ, ◌<◌, get_or}
use Rattle.std.proofs.Math.Nat.{mod-eq_of_lt}
use native.Mathlib.Omega.{arith}
use Rattle.rules_numbers.specs.Bytes.{little}
use Rattle.rules.specs.Records.{encode}
use Rattle.action_records.specs.declared.Record.{Record}
use Rattle.action_records.specs.Record.{Numbered, action_of}

abbrev pub first4 : List ℕ → List ℕ → List ℕ
first4 bs rest = get_or bs 0 0 ∷ get_or bs 1 0 ∷ get_or bs 2 0 ∷ get_or bs 3 0 ∷ rest

abbrev pub first8 : List ℕ → List ℕ
first8 bs = first4 bs (get_or bs 4 0 ∷ get_or bs 5 0 ∷ get_or bs 6 0 ∷ get_or bs 7 0 ∷ [])

module _ (r : Record) (n : ℕ) (len number word stamp time : List ℕ) where
  pub bytes-encode :
      Numbered r.kind n
      → r.flags < 256
      → len ≡ little 2 r.len
      → number ≡ little 4 r.number
      → word ≡ little 4 r.word
      → stamp ≡ little 4 r.stamp
      → time ≡ little 8 r.time
      → n ∷ r.flags ∷ get_or len 0 0 ∷ get_or len 1 0 ∷ first4 number (first4 word (first4 stamp (first8 time))) ≡ encode (action_of r)
  unfolding encode
  bytes-encode k f el en ew es et =
      let small : n < 256 = omega arith in
      rw (el, en, ew, es, et, ← k.is, mod-eq_of_lt small, mod-eq_of_lt f)
