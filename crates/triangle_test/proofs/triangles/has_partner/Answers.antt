-- No set so far is a partner, and a partner is one of the sets.
use Rattle.std.proofs.Common.{◌∙◌, below_more, arith}
use Rattle.triangle_test.proofs.Ruled.{ruled_out, first_in}
use Rattle.triangle_test.proofs.triangles.has_partner.Goals as goal
use Rattle.triangle_test.proofs.triangles.has_partner.Goals.{else-connected-via-then-connected+else-siblings, else-connected-via-else-connected}

pub loop-two_a-preserved : goal.loop-two_a-preserved
loop-two_a-preserved c = below_more _ _ c.loop-two_a.invariant
    (λ h. elim c.else-connected.branch [
      | else-connected-via-then-connected+else-siblings w ↦ ruled_out _ w.if-siblings.false (w.siblings.ensures.1 h.1)
      | else-connected-via-else-connected w ↦ ruled_out _ w.if-connected.false (c.connected.ensures ∙ h.0)
    ])

pub returns : goal.returns
returns c = λ e two_a h. c.loop-two_a.invariant two_a (omega (arith, first_in c.args.pairs.now.seqs.two two_a c.args.two_b.0 h.1)) h
