-- No set so far is the second of a triangle with the first, and the second is one of the sets.
use Rattle.std.proofs.Common.{below_more, arith, refl}
use Rattle.triangle_test.proofs.Least.{least_from}
use Rattle.triangle_test.proofs.Ruled.{second_in}
use Rattle.triangle_test.proofs.triangles.triangle_from.Goals as goal

pub loop-one_b-preserved : goal.loop-one_b-preserved
loop-one_b-preserved c = below_more _ _ c.loop-one_b.invariant (c.in_default.ensures.none refl)

pub returns-in-Some-clause-some : goal.returns-in-Some-clause-some
returns-in-Some-clause-some c = least_from c.args.pairs.now c.in-Some.quad _ _ c.in-Some.ensures.some c.loop-one_b.invariant

pub returns-clause-none : goal.returns-clause-none
returns-clause-none c = λ e q a tri.
    c.loop-one_b.invariant q.one_b.0 (omega (arith, second_in c.args.pairs.now.seqs.one q.one_a.0 q.one_b.0 tri.one)) q a refl tri
