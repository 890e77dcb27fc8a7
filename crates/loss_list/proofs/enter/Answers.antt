-- `loss_list::enter` meets its contract: `remove_below` finds two places, and moving and writing between them leaves
-- what `Entering` says.
use Rattle.std.proofs.Common.{arith, ◌+◌, ◌≤◌, ◌≡◌, ◌∙◌, sym, length, length-take-le}
use Rattle.rules_numbers.specs.Modular.{seqs, dist}
use Rattle.loss_list.specs.LossList.{staying}
use Rattle.loss_list.specs.LossList.Laws.{Entering, entering, staying-few, staying-slice}
use Rattle.loss_list.proofs.Turns.{moved_up}
use Rattle.loss_list.proofs.enter.Goals as goal
use Rattle.loss_list.proofs.enter.Goals.{After-remove_below-near, After-remove_below-far}

-- the place of the run's first number, which lies within the area
near_is : (c : After-remove_below-near) → c.remove_below-near.result ≡ staying (dist seqs c.args.front.0) (dist seqs c.args.front.0 c.args.first.0) c.args.len c.args.list.now
near_is c = c.remove_below-near.ensures ∙ staying-slice c.args.len c.args.list.now c.requires.inside _ _

near_inside : (c : After-remove_below-near) → c.remove_below-near.result ≤ length c.args.list.now
near_inside c =
    let key = dist seqs c.args.front.0 in
    omega (arith, near_is c, staying-few key (key c.args.first.0) c.args.list.now c.args.len, c.requires.inside)

-- both places
places : (c : After-remove_below-far) → Entering (dist seqs c.args.front.0) c.args.first.0 c.args.count c.args.len c.args.list.now c.remove_below-near.result c.remove_below-far.result
places c =
    let key = dist seqs c.args.front.0 in
    let l = c.args.list.now in
    let n = c.remove_below-near in
    let a = near_is c.before.before in
    let inside = near_inside c.before.before in
    let b = c.remove_below-far.ensures ∙ staying-slice n.result l inside key _ in
    entering key c.args.first.0 c.args.count c.args.len l n.result c.remove_below-far.result
    a (rw c.plus.ensures at b) c.requires

pub slice_bounds-remove_below-end-3 : goal.slice_bounds-remove_below-end-3
slice_bounds-remove_below-end-3 c = near_inside c

pub slice_bounds-remove_below-end-4 : goal.slice_bounds-remove_below-end-4
slice_bounds-remove_below-end-4 c = sym (length-take-le _ c.args.list.now (near_inside c))

pub overflow_add-end : goal.overflow_add-end
overflow_add-end c = let p = places (goal.at.overflow_add-end c).After-remove_below-far in record { fits = omega (arith, p.up, p.room, p.inside) }

pub copy_within-requires-clause-start_le_end : goal.copy_within-requires-clause-start_le_end
copy_within-requires-clause-start_le_end c =
    let p = places (goal.at.copy_within-requires-clause-start_le_end c).After-remove_below-far in p.inside

pub copy_within-requires-clause-dest_in_bounds : goal.copy_within-requires-clause-dest_in_bounds
copy_within-requires-clause-dest_in_bounds c =
    let p = places (goal.at.copy_within-requires-clause-dest_in_bounds c).After-remove_below-far in omega (arith, p.up, p.room, p.inside)

pub write_run-requires : goal.write_run-requires
write_run-requires c =
    let p = places (goal.at.write_run-requires c).After-remove_below-far in
    (omega arith, omega (arith, p.up, p.room, p.inside, c.copy_within.ensures.len))

pub overflow_sub-result : goal.overflow_sub-result
overflow_sub-result c = let p = places (goal.at.overflow_sub-result c).After-remove_below-far in omega (arith, p.up)

pub overflow_add-result : goal.overflow_add-result
overflow_add-result c = let p = places (goal.at.overflow_add-result c).After-remove_below-far in record { fits = omega (arith, p.room) }

pub returns : goal.returns
returns c =
    let p = places (goal.at.returns c).After-remove_below-far in
    p.left _ _ (c.copy_within.ensures.after ∙ moved_up c.args.list.now c.remove_below-near.result c.args.len (c.remove_below-far.result + c.args.count) p.inside p.up) c.write_run.ensures
