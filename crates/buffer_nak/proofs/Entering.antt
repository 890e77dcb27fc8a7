-- The invariant of `enter_runs`: after i turns the area holds the list with the first i runs entered. In a turn,
-- `enter_run` finds that list in the area's first elements, has room because the whole list has, and leaves the other
-- elements unchanged.
use mathlib.Core.Path.{◌≡◌, refl, sym, ap, ◌∙◌}
use mathlib.Core.List.{List}
use Prim.Native.Nat.{ℕ, ◌+◌, ◌*◌, ◌≤◌, ◌<◌}
use native.Mathlib.Numerals.{add-one}
use native.Mathlib.Omega.{arith}
use lib.ListN.{length, take, get_or, take-append-drop}
use lib.Seq.{length-take-le}
use Rattle.loss_list.specs.LossList.{over}
use Rattle.loss_list.specs.LossList.Laws.{Fits, Left, take-over, length_over, over-over}
use Rattle.buffer_nak.specs.Report.{enter_run}
use Rattle.buffer_nak.specs.Report.Laws.{entered_to, Readable, entered-longest}

-- of the first n elements of e and the first count runs of ws, i are entered: the list has m entries, in the area l
pub record Entering (f : ℕ) (ws e : List ℕ) (n count m i : ℕ) (l : List ℕ) : Type 0 where
  pub inside : i ≤ count
  pub left : Left m l (entered_to f ws i (take n e)) e
  pub same : length l ≡ length e

module _ (f : ℕ) (ws e : List ℕ) (n count : ℕ) (R : Readable ws count f n e) where
  pub entering-none : Entering f ws e n count n 0 e
  unfolding entered_to
  entering-none =
      let long : length (take n e) ≡ n = length-take-le n e R.inside in
      record { inside = omega arith; left = record { count = sym long; area = rw long (sym (take-append-drop n e)) }; same = refl }

  module _ (m i : ℕ) (l : List ℕ) (E : Entering f ws e n count m i l) where
    abbrev next : List ℕ → List ℕ
    next xs = enter_run f (get_or ws (3 * i) 0) (get_or ws (3 * i + 1) 0) (get_or ws (3 * i + 2) 0) xs

    seen : take m l ≡ entered_to f ws i (take n e)
    seen = rw (E.left.count, E.left.area) (take-over (entered_to f ws i (take n e)) e)

    more : next (take m l) ≡ entered_to f ws (i + 1) (take n e)
    unfolding entered_to
    more = rw (add-one i) (ap next seen)

    step : i < count → length (entered_to f ws i (take n e)) ≤ length (entered_to f ws (i + 1) (take n e))
    step h = rw (add-one i) (R.grows i h)

    room : i < count → length (entered_to f ws (i + 1) (take n e)) ≤ length e
    room h = omega (arith, entered-longest f ws (i + 1) count (take n e) R.grows (omega arith), R.room)

    pub entering-fits : i < count → Fits m (next (take m l)) l
    entering-fits h = record {
      inside = omega (arith, E.left.count, E.same, R.room, entered-longest f ws i count (take n e) R.grows E.inside);
      grows = rw more (omega (arith, E.left.count, step h));
      room = rw (more, E.same) (room h);
    }

    pub entering-step : (r : ℕ) (l' : List ℕ) → i < count → Left r l' (next (take m l)) l → Entering f ws e n count r (i + 1) l'
    entering-step r l' h L =
        let area : l' ≡ over (entered_to f ws (i + 1) (take n e)) e =
        rw more at L.area
        ∙ ap (over (entered_to f ws (i + 1) (take n e))) E.left.area
        ∙ over-over (entered_to f ws i (take n e)) (entered_to f ws (i + 1) (take n e)) e (step h) in
        record {
          inside = omega arith;
          left = record { count = rw more at L.count; area = area };
          same = ap length area ∙ length_over (entered_to f ws (i + 1) (take n e)) e (room h);
        }

    pub entering-all : count ≤ i → Left m l (entered_to f ws count (take n e)) e
    entering-all h = let end : count ≡ i = omega (arith, E.inside) in rw end E.left
