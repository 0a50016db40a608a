-- The value and the floor raise coefficients by 1 each.
use Rattle.std.proofs.Common.{◌+◌, ◌^◌, arith}
use Rattle.incentive_rows.proofs.Growing.{grows-on}
use Rattle.incentive_rows.proofs.Terms.{changes_both}
use Rattle.incentive_rows.proofs.blocks.add_value_above.Goals as goal

pub add_1-requires-clause-room : goal.add_1-requires-clause-room
add_1-requires-clause-room c = λ r k. omega (arith, c.in_ok-take_1.ensures.grows.within (2 ^ 42 + 128) c.requires.before r k)

pub returns-clause-changes : goal.returns-clause-changes
returns-clause-changes c =
    let both = changes_both c.in_ok-take_1.ensures.changes c.in_ok-add_1.ensures.changes in
    let row = c.unwrap_or-row.ensures in
    (c.own-own.result, rw c.seqs.ensures at c.own-own.ensures.number, rw (← c.row_of.ensures.value, ← row) both)

pub returns-clause-grows : goal.returns-clause-grows
returns-clause-grows c = grows-on 2 c.in_ok-take_1.ensures.grows c.in_ok-add_1.ensures.grows (omega arith)
