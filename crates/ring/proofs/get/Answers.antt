-- `ring::get` meets its contract: word j of the entry's part of the area is word j of the entry.
use Rattle.std.proofs.Common.{◌≡◌, List, ℕ, ◌+◌, ◌-◌, ◌*◌, ◌<◌, get_or, take, drop, arith, lit<}
use Rattle.std.proofs.lemmas.List.Edits.{get_or-between}
use Rattle.ring.specs.Entry.{read_e}
use Rattle.ring.proofs.get.Goals as goal

word : (xs : List ℕ) (i j : ℕ) → j < 6 → get_or (take (i + 6 - i) (drop i xs)) j 0 ≡ get_or xs (i + j) 0
word xs i j h = get_or-between xs i (i + 6) j 0 (omega arith)

pub returns : goal.returns
unfolding read_e
returns c =
    let xs = c.args.area.now in
    let i = c.args.slot * 6 in
    rw (word xs i 0 (lit< tt), word xs i 1 (lit< tt), word xs i 2 (lit< tt), word xs i 3 (lit< tt), word xs i 4 (lit< tt), word xs i 5 (lit< tt))
