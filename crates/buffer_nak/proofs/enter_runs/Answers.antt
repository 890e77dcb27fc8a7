-- `buffer_nak::enter_runs` meets its contract: each turn of the loop enters one more run (`Entering`). A chunk is the
-- three words of a run (`words`).
use Rattle.std.proofs.Common.{[], ap, arith, drop, drop-drop, drop_at, get_or, get_or-drop, get_or-take, length, length-append, length-drop, length-take-le, sym, take, List, ℕ, ◌*◌, ◌+◌, ◌++◌, ◌<◌, ◌∙◌, ◌∷◌, ◌≡◌, ◌≤◌}
use lib.ListN.{get_or-append}
use Rattle.buffer_nak.proofs.Entering.{entering-none, entering-fits, entering-step, entering-all}
use Rattle.buffer_nak.proofs.enter_runs.Goals as goal
use Rattle.buffer_nak.proofs.enter_runs.Goals.{In-Some}

-- k runs are read, and the next is x; t is behind it
module _ (ws : List ℕ) (count k : ℕ) (x t : List ℕ) (whole : 3 * count ≤ length ws) (is : drop (3 * k) (take (3 * count) ws) ≡ x ++ t) (three : length x ≡ 3) where
  within : k < count
  within =
      let long = length-take-le (3 * count) ws whole in
      let left = ap length is ∙ length-append x t in
      omega (arith, left, long, three, length-drop (3 * k) (take (3 * count) ws))

  word : (j : ℕ) → j < 3 → get_or x j 0 ≡ get_or ws (3 * k + j) 0
  word j h =
      sym (get_or-append x t 0 j (omega (arith, three)))
      ∙ ap (λ (l : List ℕ). get_or l j 0) (sym is)
      ∙ get_or-drop (3 * k) (take (3 * count) ws) j 0
      ∙ get_or-take (3 * count) ws (3 * k + j) 0 (omega (arith, within))

  words : (get_or x 0 0 ≡ get_or ws (3 * k) 0) × (get_or x 1 0 ≡ get_or ws (3 * k + 1) 0) × (get_or x 2 0 ≡ get_or ws (3 * k + 2) 0)
  words =
      let e : 3 * k + 0 ≡ 3 * k = omega arith in
      (word 0 (omega arith) ∙ ap (λ (n : ℕ). get_or ws n 0) e, word 1 (omega arith), word 2 (omega arith))

  behind : t ≡ drop (3 * (k + 1)) (take (3 * count) ws)
  behind =
      let e : 3 * k + 3 ≡ 3 * (k + 1) = omega arith in
      sym (ap (drop 3) is ∙ drop_at x t 3 three)
      ∙ drop-drop 3 (3 * k) (take (3 * count) ws)
      ∙ ap (λ (n : ℕ). drop n (take (3 * count) ws)) e

-- the chunk, and its length
is : (c : In-Some) → drop (3 * length c.loop-run.yielded) (take (3 * c.args.count) c.args.runs.now) ≡ c.in-Some.run'.now ++ c.next.new.self.rest.now
is c = sym c.loop-run.invariant.rest ∙ c.in-Some.ensures.steps.1.0

three : (c : In-Some) → length c.in-Some.run'.now ≡ 3
three c = c.in-Some.ensures.steps.1.1 ∙ c.loop-run.invariant.size

pub loop-run-init : goal.loop-run-init
loop-run-init c = record {
  entering = entering-none c.args.front.0 c.args.runs.now c.args.lost.now c.args.len c.args.count c.requires;
  rest = rw c.into_iter-run-iterator.ensures.into_iter_gives c.chunks_exact-run-items.ensures.rest;
  size = rw c.into_iter-run-iterator.ensures.into_iter_gives c.chunks_exact-run-items.ensures.size;
}

pub enter_run-n-requires : goal.enter_run-n-requires
enter_run-n-requires c =
    let s = (goal.at.enter_run-n-requires c).In-Some in
    let e = words c.args.runs.now c.args.count (length c.loop-run.yielded) _ _ c.requires.whole (is s) (three s) in
    rw (e.0, e.1, e.2)
    (entering-fits c.args.front.0 c.args.runs.now c.args.lost.now c.args.len c.args.count c.requires
    c.loop-run.n (length c.loop-run.yielded) c.loop-run.lost c.loop-run.invariant.entering
    (within c.args.runs.now c.args.count (length c.loop-run.yielded) _ _ c.requires.whole (is s) (three s)))

pub loop-run-preserved : goal.loop-run-preserved
loop-run-preserved c =
    let s = (goal.at.loop-run-preserved c).In-Some in
    let e = words c.args.runs.now c.args.count (length c.loop-run.yielded) _ _ c.requires.whole (is s) (three s) in
    rw (length-append c.loop-run.yielded (c.in-Some.run' ∷ [])) (record {
      entering = entering-step c.args.front.0 c.args.runs.now c.args.lost.now c.args.len c.args.count c.requires
          c.loop-run.n (length c.loop-run.yielded) c.loop-run.lost c.loop-run.invariant.entering c.enter_run-n.result c.enter_run-n.new.lost
          (within c.args.runs.now c.args.count (length c.loop-run.yielded) _ _ c.requires.whole (is s) (three s))
          (rw (e.0, e.1, e.2) at c.enter_run-n.ensures);
      rest = behind c.args.runs.now c.args.count (length c.loop-run.yielded) _ _ c.requires.whole (is s) (three s);
      size = c.in-Some.ensures.steps.0 ∙ c.loop-run.invariant.size;
    })

pub returns : goal.returns
returns c =
    let ws = c.args.runs.now in
    let k = length c.loop-run.yielded in
    let long = length-take-le (3 * c.args.count) ws c.requires.whole in
    let left = ap length c.loop-run.invariant.rest ∙ length-drop (3 * k) (take (3 * c.args.count) ws) in
    let done : c.args.count ≤ k = omega (arith, long, left, c.in-None.ensures.steps.1.0, c.loop-run.invariant.size) in
    entering-all c.args.front.0 ws c.args.lost.now c.args.len c.args.count c.requires
    c.loop-run.n k c.loop-run.lost c.loop-run.invariant.entering done
