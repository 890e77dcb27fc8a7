-- What `enter` and `write_run` do to an area: `copy_within` moves some elements up (`moved_up`), and a turn of the loop
-- writes the next number before those already written (`written_step`).
use mathlib.Core.Path.{◌≡◌, ap, sym, ◌∙◌}
use mathlib.Core.List.{List, ◌∷◌, ◌++◌}
use Rattle.std.proofs.Common.{append_assoc}
use Prim.Native.Nat.{ℕ, zero, suc, ◌+◌, ◌-◌, ◌≤◌, ◌<◌}
use native.Mathlib.Nat.{not-suc-le-zero}
use native.Mathlib.Numerals.{add-one, sub-one}
use native.Mathlib.Omega.{arith}
use lib.ListN.{length, take, drop, set, get_or, take-append-drop}
use lib.Seq.{take-suc, append_snoc, set_at, length-take-le}
use Rattle.std.specs.List.{copy_within}
use Rattle.std.proofs.lemmas.Slice.{between_is}
use Rattle.rules_numbers.specs.Modular.{seqs, plus}
use Rattle.loss_list.specs.LossList.{falling}
use Rattle.loss_list.specs.LossList.Laws.{moved, written}

-- a store at the last of the first i + 1
set_last : (l r : List ℕ) (i y : ℕ) → i < length l → set (take (suc i) l ++ r) i y ≡ take i l ++ (y ∷ r)
set_last l r i y h =
    rw (take-suc l i 0 h, append_snoc (take i l)) (set_at (take i l) (get_or l i 0) r y i (length-take-le i l (omega arith)))

pub moved_up : (l : List ℕ) (i n to : ℕ) → i ≤ n → i ≤ to → copy_within l i n to ≡ moved l i n (to - i)
moved_up l i n to h k =
    let here : i + (to - i) ≡ to = omega arith in
    let end : to + (n - i) ≡ n + (to - i) = omega arith in
    rw (here, end)
    (append_assoc (take to l) (take (n - i) (drop i l)) (drop (n + (to - i)) l)
    ∙ ap (λ (m : List ℕ). take to l ++ (m ++ drop (n + (to - i)) l)) (between_is l i n))

pub written_none : (l : List ℕ) (n x : ℕ) → l ≡ written l n n x 0
unfolding falling
written_none l n x = sym (take-append-drop n l)

pub written_step : (l : List ℕ) (i n x k : ℕ) → 0 < i → i ≤ length l → set (written l i n x k) (i - 1) (plus seqs x k) ≡ written l (i - 1) n x (k + 1)
unfolding falling
written_step l zero n x k h room = absurd (not-suc-le-zero h)
written_step l (suc p) n x k h room = rw (sub-one (suc p), add-one k) (set_last l (falling x k ++ drop n l) p (plus seqs x k) room)
