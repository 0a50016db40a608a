-- No set so far is the first of a triangle, and the first is one of the sets.
use Rattle.std.proofs.Common.{below_more, arith, refl}
use Rattle.triangle_test.proofs.Least.{least_triangle}
use Rattle.triangle_test.proofs.Ruled.{first_in}
use Rattle.triangle_test.proofs.triangles.triangle.Goals as goal

pub loop-one_a-preserved : goal.loop-one_a-preserved
loop-one_a-preserved c = below_more _ _ c.loop-one_a.invariant (c.in_default.ensures.none refl)

pub returns-in-Some-clause-some : goal.returns-in-Some-clause-some
returns-in-Some-clause-some c = least_triangle c.args.pairs.now c.in-Some.quad _ c.in-Some.ensures.some c.loop-one_a.invariant

pub returns-clause-none : goal.returns-clause-none
returns-clause-none c = λ e q tri.
    c.loop-one_a.invariant q.one_a.0 (omega (arith, first_in c.args.pairs.now.seqs.one q.one_a.0 q.one_b.0 tri.one)) q refl tri
