-- No set so far goes on to a triangle that begins so, and the next is one of the sets.
use Rattle.std.proofs.Common.{below_more, arith, ◌∷◌, []}
use Rattle.plain_trees.proofs.Leasts.{least_more, none_with_one}
use Rattle.plain_trees.proofs.triangles.least_with_one.Goals as goal

pub returns-in-Some-clause-some : goal.returns-in-Some-clause-some
returns-in-Some-clause-some c =
    least_more c.args.game.now (c.args.one_a.0 ∷ []) c.loop-one_b.one_b c.in-Some.quad (rw c.in-Some.is at c.in_ok-quad.ensures.some)
    c.loop-one_b.invariant

pub loop-one_b-preserved : goal.loop-one_b-preserved
loop-one_b-preserved c = below_more _ _ c.loop-one_b.invariant (rw c.in_default.is at c.in_ok-quad.ensures.none)

pub returns-clause-none : goal.returns-clause-none
returns-clause-none c =
    none_with_one c.args.game.now c.sets-one_b-end.ensures.rules c.loop-one_b.one_b c.args.one_a.0
    (omega (arith, c.sets-one_b-end.ensures.count)) c.loop-one_b.invariant
