-- No node so far parts a set.
use Rattle.std.proofs.Common.{below_more, refl, arith}
use Rattle.std.proofs.lemmas.Bool.{false≢true}
use Rattle.triangle_test.proofs.Ruled.{ruled_out}
use Rattle.plain_trees.proofs.Parting.{parted, unparted}
use Rattle.plain_trees.proofs.chances.has_public_chance.Goals as goal

pub returns-then-parts_a_set : goal.returns-then-parts_a_set
returns-then-parts_a_set c = (
  λ h. absurd (false≢true h),
  λ public. absurd (parted c.args.game.now c.loop-n.n (c.parts_a_set.ensures.0 c.if-parts_a_set.true) public),
)

pub loop-n-preserved : goal.loop-n-preserved
loop-n-preserved c = below_more _ _ c.loop-n.invariant
    (λ parts. ruled_out _ c.if-parts_a_set.false (c.parts_a_set.ensures.1 parts))

pub returns : goal.returns
returns c = (
  λ h. unparted c.args.game.now (λ n low. c.loop-n.invariant n (omega arith)),
  λ public. refl,
)
