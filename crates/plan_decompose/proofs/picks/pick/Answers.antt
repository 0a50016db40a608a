-- No set is open at the end.
use Rattle.corr_game.specs.declared.sides.Side.TheVariants.{One, Two}
use Rattle.plan_decompose.proofs.Parts.{reduced}
use Rattle.plan_decompose.proofs.picks.pick.Goals as goal

pub returns-clause-reduced_one : goal.returns-clause-reduced_one
returns-clause-reduced_one c =
    rw c.plan_of.ensures (reduced One c.args.game.now c.args.pairs.now c.loop-at.walk.one c.loop-at.invariant.walk.one (c.in_default.ensures.none One))

pub returns-clause-reduced_two : goal.returns-clause-reduced_two
returns-clause-reduced_two c =
    rw c.plan_of-2.ensures (reduced Two c.args.game.now c.args.pairs.now c.loop-at.walk.two c.loop-at.invariant.walk.two (c.in_default.ensures.none Two))
