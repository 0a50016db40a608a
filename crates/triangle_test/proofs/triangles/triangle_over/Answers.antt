-- No set so far is the last of a triangle, and the last is one of the sets.
use Rattle.std.proofs.Common.{below_more, arith, refl, rules}
use Rattle.triangle_test.proofs.Ruled.{ruled_out, second_in}
use Rattle.triangle_test.proofs.triangles.triangle_over.Goals as goal

pub loop-two_b-preserved : goal.loop-two_b-preserved
loop-two_b-preserved c = below_more _ _ c.loop-two_b.invariant (λ h. ruled_out _ c.if-is_last.false (c.is_last.ensures.1 h))

pub returns-then-is_last-clause-some : goal.returns-then-is_last-clause-some
returns-then-is_last-clause-some c =
    let last = c.is_last.ensures.0 c.if-is_last.true in
    record {
      first = refl;
      second = refl;
      third = refl;
      triangle = record { one = c.requires.apart; two = last.2; first = search rules; second = last.1; across = last.0 };
      none_before = λ k lt q a b t s tri. c.loop-two_b.invariant k lt (rw (a, s) at tri.across, rw (b, s) at tri.second, rw (t, s) at tri.two);
    }

pub returns-clause-none : goal.returns-clause-none
returns-clause-none c = λ e q a b t tri.
    c.loop-two_b.invariant q.two_b.0 (omega (arith, second_in c.args.pairs.now.seqs.two q.two_a.0 q.two_b.0 tri.two)) (rw a at tri.across, rw b at tri.second, rw t at tri.two)
