-- One amount in the row of leaving and one in that of following.
use Rattle.std.proofs.Common.{◌^◌, arith}
use Rattle.incentive_rows.proofs.Growing.{grows-on}
use Rattle.incentive_rows.proofs.Terms.{changes_both}
use Rattle.incentive_rows.proofs.leaves.add_leaf.Goals as goal

pub add_followed-requires-clause-before : goal.add_followed-requires-clause-before
add_followed-requires-clause-before c = λ r k. omega (arith, c.in_ok-add_left.ensures.grows.within (2 ^ 42) c.requires.before r k)

pub returns-clause-changes : goal.returns-clause-changes
returns-clause-changes c = changes_both c.in_ok-add_left.ensures.changes c.in_ok-add_followed.ensures.changes

pub returns-clause-grows : goal.returns-clause-grows
returns-clause-grows c = grows-on (2 ^ 29) c.in_ok-add_left.ensures.grows c.in_ok-add_followed.ensures.grows (omega arith)
