-- The loss list: sequence numbers in the first elements of a lent area. Document 01, "What must change shape":
-- "`VecDeque`, `BTreeSet` and the keyed queue become a ring, a sorted array and resend times over lent numbers." "Book
-- rules": "the loss list ascending from the front, without repeats, all sent". It is ordered by a key of each number:
-- in the contracts, its distance from the front, `dist seqs front`. The farthest comes first and the nearest last, so
-- entries are removed from the end.
--   over xs e              the area e with the list xs in its first elements; the others stay
--   staying key k n e      how many of the first n elements of e stay when those with a key below k go from the end
--   falling x k            the k numbers from x on, the last of them first
--   entered key x k xs     "Added numbers enter the list once": the k numbers from x on, between the entries beyond
--                          them and the nearer ones
--   in_order, descends     whether xs are sequence numbers with keys below hi, descending without repeats
--   keeps front sent n e   the book rules of the first n elements of e, with `sent` packets sent from the front on
pub mod Laws
pub mod Runs
pub mod Stands
use Rattle.std.specs.Prelude.{Bool, true, ◌&&◌, cond, List, [], ◌∷◌, ◌++◌, ℕ, zero, suc, ltb, leb, length, take, drop, get_or}
use Rattle.rules_numbers.specs.Modular.{seqs, plus, dist}

abbrev pub over : List ℕ → List ℕ → List ℕ
over xs e = xs ++ drop (length xs) e

unfoldable pub staying : (ℕ → ℕ) → ℕ → ℕ → List ℕ → ℕ
staying key k zero e = 0
staying key k (suc n) e = cond (ltb (key (get_or e n 0)) k) (staying key k n e) (suc n)

unfoldable pub falling : ℕ → ℕ → List ℕ
falling x zero = []
falling x (suc k) = plus seqs x k ∷ falling x k

unfoldable pub entered : (ℕ → ℕ) → ℕ → ℕ → List ℕ → List ℕ
entered key x k xs =
    let q = staying key (key x) (length xs) xs in
    take (staying key (key (plus seqs x k)) q xs) xs ++ (falling x k ++ drop q xs)

-- for one entry: its key, and that it is a sequence number; "all sent"
abbrev pub in_order : ℕ → ℕ → ℕ → Bool
in_order hi k y = ltb y seqs && ltb k hi

unfoldable pub descends : (ℕ → ℕ) → ℕ → List ℕ → Bool
descends key hi [] = true
descends key hi (y ∷ ys) = in_order hi (key y) y && descends key (key y) ys

unfoldable pub keeps : ℕ → ℕ → ℕ → List ℕ → Bool
keeps front sent n e = leb n (length e) && descends (dist seqs front) sent (take n e)
