-- No set so far is met, and a sibling is one of the sets.
use Rattle.std.proofs.Common.{◌∙◌, below_more, arith}
use Rattle.triangle_test.proofs.Ruled.{ruled_out, second_in}
use Rattle.triangle_test.proofs.triangles.meets_sibling.Goals as goal
use Rattle.triangle_test.proofs.triangles.meets_sibling.Goals.{else-connected-via-then-connected+else-siblings, else-connected-via-else-connected}

pub loop-one_b-preserved : goal.loop-one_b-preserved
loop-one_b-preserved c = below_more _ _ c.loop-one_b.invariant
    (λ h. elim c.else-connected.branch [
      | else-connected-via-then-connected+else-siblings w ↦ ruled_out _ w.if-siblings.false (w.siblings.ensures.1 h.1)
      | else-connected-via-else-connected w ↦ ruled_out _ w.if-connected.false (c.connected.ensures ∙ h.0)
    ])

pub returns : goal.returns
returns c = λ e one_b h. c.loop-one_b.invariant one_b (omega (arith, second_in c.args.pairs.now.seqs.one c.args.one_a.0 one_b h.1)) h
