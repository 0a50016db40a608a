-- No set so far is in a triangle with the two, and the second set of a triangle is one of the sets.
use Rattle.std.proofs.Common.{◌∙◌, refl, below_more, arith}
use Rattle.triangle_test.proofs.Ruled.{ruled_out, second_in}
use Rattle.triangle_test.proofs.triangles.shares.Goals as goal
use Rattle.triangle_test.proofs.triangles.shares.Goals.{else-connected-via-then-connected+then-connected-2+else-has_partner, else-connected-via-then-connected+else-connected-2, else-connected-via-else-connected}

pub loop-two_b-preserved : goal.loop-two_b-preserved
loop-two_b-preserved c = below_more _ _ c.loop-two_b.invariant
    (λ q a b t tri. elim c.else-connected.branch [
      | else-connected-via-then-connected+then-connected-2+else-has_partner w ↦ w.has_partner.ensures w.if-has_partner.false q.two_a.0 (rw a at tri.first, rw t at tri.two)
      | else-connected-via-then-connected+else-connected-2 w ↦ ruled_out _ w.if-connected-2.false (w.connected-then-connected.ensures ∙ rw (b, t) at tri.second)
      | else-connected-via-else-connected w ↦ ruled_out _ w.if-connected.false (c.connected.ensures ∙ rw (a, t) at tri.across)
    ])

pub returns : goal.returns
returns c = λ e q a b tri. c.loop-two_b.invariant q.two_b.0 (omega (arith, second_in c.args.pairs.now.seqs.two q.two_a.0 q.two_b.0 tri.two)) q a b refl tri
