-- There are at most as many rows as columns.
use Rattle.std.proofs.Common.{◌≡◌, ◌^◌, arith}
use Rattle.incentive_rows.specs.Coefficient.{IsSlackTerm}
use Rattle.incentive_rows.proofs.Coefficients.{slack_more, slack_none}
use Rattle.incentive_rows.proofs.Growing.{grows-on, grows-none}
use Rattle.incentive_rows.proofs.Terms.{changes_as, changes_both, changes_none}
use Rattle.incentive_rows.proofs.blocks.add_slacks.Goals as goal

pub take_1-requires-clause-room : goal.take_1-requires-clause-room
take_1-requires-clause-room c = λ r k. omega (arith, c.loop-row.invariant.0.within (2 ^ 41) c.requires.before r k)

pub loop-row-init : goal.loop-row-init
loop-row-init c = (grows-none 0 _, changes_none (IsSlackTerm c.args.columns.now 0) _ (slack_none c.args.columns.now))

pub loop-row-preserved : goal.loop-row-preserved
loop-row-preserved c = (
  grows-on _ c.loop-row.invariant.0 c.in_ok-take_1.ensures.grows (omega arith),
  changes_as (changes_both c.loop-row.invariant.1 c.in_ok-take_1.ensures.changes) (slack_more c.args.columns.now c.loop-row.row),
)

pub returns-clause-changes : goal.returns-clause-changes
returns-clause-changes c =
    let all : c.loop-row.row ≡ c.args.rows = omega arith in
    rw (← all) c.loop-row.invariant.1

pub returns-clause-grows : goal.returns-clause-grows
returns-clause-grows c = grows-on (2 ^ 13) c.loop-row.invariant.0 (grows-none 0 _) (omega arith)
