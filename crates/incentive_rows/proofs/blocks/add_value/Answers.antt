-- There are at most 64 actions.
use Rattle.std.proofs.Common.{◌≡◌, ◌+◌, ◌^◌, arith}
use Rattle.incentive_rows.specs.Coefficient.{IsValueTerm}
use Rattle.incentive_rows.proofs.Coefficients.{value_more, value_none}
use Rattle.incentive_rows.proofs.Growing.{grows-on, grows-none}
use Rattle.incentive_rows.proofs.Terms.{changes_as, changes_both, changes_none}
use Rattle.incentive_rows.proofs.blocks.add_value.Goals as goal

pub add_1-requires-clause-room : goal.add_1-requires-clause-room
add_1-requires-clause-room c = λ r k. omega (arith, c.loop-action.invariant.0.within (2 ^ 42) c.requires.before r k)

pub take_1-requires-clause-room : goal.take_1-requires-clause-room
take_1-requires-clause-room c = λ r k.
    omega (arith, c.in_ok-add_1.ensures.grows.within (2 ^ 42 + 128) (λ i j. omega (arith, c.loop-action.invariant.0.within (2 ^ 42) c.requires.before i j)) r k)

pub loop-action-init : goal.loop-action-init
loop-action-init c = (grows-none _ _, changes_none (IsValueTerm c.args.columns.now 0 c.args.place) _ (value_none c.args.columns.now c.args.place))

pub loop-action-preserved : goal.loop-action-preserved
loop-action-preserved c = (
  grows-on _ c.loop-action.invariant.0 (grows-on 2 c.in_ok-add_1.ensures.grows c.in_ok-take_1.ensures.grows (omega arith)) (omega arith),
  changes_as (changes_both c.loop-action.invariant.1 (changes_both c.in_ok-add_1.ensures.changes c.in_ok-take_1.ensures.changes)) (value_more c.args.columns.now c.loop-action.action c.args.place),
)

pub returns-clause-changes : goal.returns-clause-changes
returns-clause-changes c =
    let all : c.loop-action.action ≡ c.args.actions = omega arith in
    rw (← all) c.loop-action.invariant.1

pub returns-clause-grows : goal.returns-clause-grows
returns-clause-grows c = grows-on 128 c.loop-action.invariant.0 (grows-none 0 _) (omega arith)
