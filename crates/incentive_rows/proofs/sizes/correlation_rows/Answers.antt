-- There are at most 4096 sets.
use Rattle.std.proofs.Common.{arith}
use Rattle.incentive_rows.proofs.Counts.{few_sets}
use Rattle.incentive_rows.proofs.sizes.correlation_rows.Goals as goal

pub returns-clause-few : goal.returns-clause-few
returns-clause-few c =
    omega (arith, c.loop-set.invariant.1, few_sets c.args.side c.args.game.now c.sets-set-end.ensures.rules)
