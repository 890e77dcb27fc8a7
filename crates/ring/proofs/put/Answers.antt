-- `ring::put` meets its contract: the six words fill the entry's part of the area, so they come to lie one after another.
use Rattle.std.proofs.Common.{◌≡◌, List, ℕ, suc, ◌+◌, ◌-◌, ◌*◌, ◌≤◌, ◌∙◌, ◌++◌, ap, length, get_or, set, arith, refl, sym}
use Rattle.std.proofs.Math.ListN.{drop_of_length-le}
use Rattle.std.proofs.lemmas.List.Edits.{length-between}
use Rattle.std.proofs.lemmas.Slice.{put_mid-paste}
use Rattle.std.specs.List.{between}
use lib.Seq.{paste, paste-zero, paste-suc}
use Rattle.ring.specs.declared.Entry.{Entry}
use Rattle.ring.specs.Entry.{words, write_from, write_e}
use Rattle.ring.proofs.put.Goals as goal

written : (xs : List ℕ) (i : ℕ) (ws : List ℕ) → length ws ≡ 6 → i + 6 ≤ length xs
    → paste xs i ws 6 ≡ set (set (set (set (set (set xs (i + 0) (get_or ws 0 0)) (i + 1) (get_or ws 1 0)) (i + 2) (get_or ws 2 0)) (i + 3) (get_or ws 3 0)) (i + 4) (get_or ws 4 0)) (i + 5) (get_or ws 5 0)
written xs i ws six h =
    rw (step 5 (omega arith), step 4 (omega arith), step 3 (omega arith), step 2 (omega arith), step 1 (omega arith), first)
  where
    step : (j : ℕ) → suc j ≤ 6 → paste xs i ws (suc j) ≡ set (paste xs i ws j) (i + j) (get_or ws j 0)
    step j q = sym (paste-suc xs i ws j 0 (omega arith) (omega arith))

    first : paste xs i ws 1 ≡ set xs (i + 0) (get_or ws 0 0)
    first = step 0 (omega arith) ∙ ap (λ (ys : List ℕ). set ys (i + 0) (get_or ws 0 0)) (sym (paste-zero xs i ws))

-- a part of six words, each overwritten
filled : (ys : List ℕ) (e : Entry) → length ys ≡ 6
    → set (set (set (set (set (set ys 0 e.time) 1 e.message) 2 e.place) 3 e.len) 4 e.count) 5 e.resend ≡ words e
filled ys e l = sym (written ys 0 (words e) refl (omega arith)) ∙ ap (λ (zs : List ℕ). words e ++ zs) (drop_of_length-le ys {i = 6} (omega arith))

pub returns : goal.returns
unfolding write_from write_e
returns c =
    let a = c.args in
    let xs = a.area.now in
    let i = a.slot * 6 in
    let long : length (between i (i + 6) xs) ≡ 6 = length-between xs i (i + 6) c.requires.1 ∙ omega arith in
    put_mid-paste i (i + 6 - i) xs _ (words a.e) 6 (filled (between i (i + 6) xs) a.e long) (omega arith) refl
    ∙ written xs i (words a.e) refl c.requires.1
