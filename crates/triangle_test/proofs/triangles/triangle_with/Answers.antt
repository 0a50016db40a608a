-- No set so far is the third of a triangle with the two, and the third is one of the sets.
use Rattle.std.proofs.Common.{below_more, arith, refl}
use Rattle.triangle_test.proofs.Least.{least_with}
use Rattle.triangle_test.proofs.Ruled.{first_in}
use Rattle.triangle_test.proofs.triangles.triangle_with.Goals as goal

pub loop-two_a-preserved : goal.loop-two_a-preserved
loop-two_a-preserved c = below_more _ _ c.loop-two_a.invariant (c.in_default.ensures.none refl)

pub returns-in-Some-clause-some : goal.returns-in-Some-clause-some
returns-in-Some-clause-some c = least_with c.args.pairs.now c.in-Some.quad _ _ _ c.in-Some.ensures.some c.loop-two_a.invariant

pub returns-clause-none : goal.returns-clause-none
returns-clause-none c = λ e q a b tri.
    c.loop-two_a.invariant q.two_a.0 (omega (arith, first_in c.args.pairs.now.seqs.two q.two_a.0 q.two_b.0 tri.two)) q a b refl tri
