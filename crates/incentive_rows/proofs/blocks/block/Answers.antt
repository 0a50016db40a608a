-- From 0 the values, the slacks and the leaves raise coefficients one after the other.
use Rattle.std.proofs.Common.{◌+◌, ◌^◌, arith}
use Rattle.incentive_rows.proofs.Coefficients.{from_blank}
use Rattle.incentive_rows.proofs.Growing.{grows-on}
use Rattle.incentive_rows.proofs.Parts.{blank_grown, blank_within}
use Rattle.incentive_rows.proofs.Placing.{stand_in}
use Rattle.incentive_rows.proofs.Terms.{changes_both}
use Rattle.incentive_rows.proofs.blocks.block.Goals as goal

pub add_slacks-requires-clause-before : goal.add_slacks-requires-clause-before
add_slacks-requires-clause-before c = λ r k.
    omega (arith, c.in_ok-add_values.ensures.grows.within 0 (rw c.in_ok-lp.ensures.all_0 (blank_within (c.args.places.now.rows + 1) c.args.columns.now.all)) r k)

pub add_leaves-requires-clause-stand : goal.add_leaves-requires-clause-stand
add_leaves-requires-clause-stand c =
    stand_in c.args.game.now c.args.pairs.now c.args.trigger.now.side c.args.trigger.now.set _ c.args.places.now.values c.args.places.now.rows c.requires.whose c.requires.placed

pub add_leaves-requires-clause-before : goal.add_leaves-requires-clause-before
add_leaves-requires-clause-before c = λ r k.
    let both = grows-on (2 ^ 20 + 2 ^ 13) c.in_ok-add_values.ensures.grows c.in_ok-add_slacks.ensures.grows (omega arith) in
    omega (arith, both.within 0 (rw c.in_ok-lp.ensures.all_0 (blank_within (c.args.places.now.rows + 1) c.args.columns.now.all)) r k)

pub returns-clause-made : goal.returns-clause-made
returns-clause-made c =
    let both = grows-on (2 ^ 20 + 2 ^ 13) c.in_ok-add_values.ensures.grows c.in_ok-add_slacks.ensures.grows (omega arith) in
    let all = grows-on (2 ^ 42) both c.in_ok-add_leaves.ensures.grows (omega arith) in
    blank_grown (c.args.places.now.rows + 1) c.args.columns.now.all (2 ^ 42) _ (rw (c.in_ok-lp.ensures.all_0) at all) (omega arith)

pub returns-clause-terms : goal.returns-clause-terms
returns-clause-terms c = λ r k.
    let both = changes_both c.in_ok-add_values.ensures.changes c.in_ok-add_slacks.ensures.changes in
    let all = changes_both both c.in_ok-add_leaves.ensures.changes in
    from_blank (c.args.places.now.rows + 1) c.args.columns.now.all (rw c.in_ok-lp.ensures.all_0 at all) r k
