-- No set so far goes on to a triangle that begins so, and the next is one of the sets.
use Rattle.std.proofs.Common.{below_more, arith}
use Rattle.plain_trees.proofs.Leasts.{least_of_all, none_at_all}
use Rattle.plain_trees.proofs.triangles.least_triangle.Goals as goal

pub returns-in-Some-clause-some : goal.returns-in-Some-clause-some
returns-in-Some-clause-some c =
    least_of_all c.args.game.now c.loop-one_a.one_a c.in-Some.quad (rw c.in-Some.is at c.in_ok-quad.ensures.some) c.loop-one_a.invariant

pub loop-one_a-preserved : goal.loop-one_a-preserved
loop-one_a-preserved c = below_more _ _ c.loop-one_a.invariant (rw c.in_default.is at c.in_ok-quad.ensures.none)

pub returns-clause-none : goal.returns-clause-none
returns-clause-none c =
    none_at_all c.args.game.now c.sets-one_a-end.ensures.rules c.loop-one_a.one_a (omega (arith, c.sets-one_a-end.ensures.count))
    c.loop-one_a.invariant
