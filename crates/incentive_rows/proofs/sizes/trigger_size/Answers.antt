-- There are at most 4096 sets.
use Rattle.std.proofs.Common.{arith}
use Rattle.incentive_rows.proofs.Counts.{few_sets}
use Rattle.incentive_rows.proofs.sizes.trigger_size.Goals as goal

pub returns-clause-few_rows : goal.returns-clause-few_rows
returns-clause-few_rows c =
    omega (arith, c.loop-set.invariant.2, few_sets c.args.side c.args.game.now c.sets-set-end.ensures.rules)

pub returns-clause-few_values : goal.returns-clause-few_values
returns-clause-few_values c =
    omega (arith, c.loop-set.invariant.3, few_sets c.args.side c.args.game.now c.sets-set-end.ensures.rules)
