-- No set so far goes on to a triangle that begins so, and the next is one of the sets.
use Rattle.std.proofs.Common.{below_more, arith, ◌∷◌, []}
use Rattle.plain_trees.proofs.Leasts.{least_more, none_with_two}
use Rattle.plain_trees.proofs.triangles.least_with_two.Goals as goal

pub returns-in-Some-clause-some : goal.returns-in-Some-clause-some
returns-in-Some-clause-some c =
    least_more c.args.game.now (c.args.one_a.0 ∷ c.args.one_b.0 ∷ []) c.loop-two_a.two_a c.in-Some.quad
    (rw c.in-Some.is at c.in_ok-quad.ensures.some) c.loop-two_a.invariant

pub loop-two_a-preserved : goal.loop-two_a-preserved
loop-two_a-preserved c = below_more _ _ c.loop-two_a.invariant (rw c.in_default.is at c.in_ok-quad.ensures.none)

pub returns-clause-none : goal.returns-clause-none
returns-clause-none c =
    none_with_two c.args.game.now c.sets-two_a-end.ensures.rules c.loop-two_a.two_a c.args.one_a.0 c.args.one_b.0
    (omega (arith, c.sets-two_a-end.ensures.count)) c.loop-two_a.invariant
