-- No node so far, at or below the other one, is of the set; and a node of a set is in the list.
use Rattle.std.proofs.Common.{below_more, arith}
use Rattle.std.proofs.lemmas.Bool.{false≢true}
use Rattle.tree_recall.proofs.Kids.{set_node}
use Rattle.triangle_test.proofs.Ruled.{ruled_out}
use Rattle.plain_trees.proofs.chances.has_mate_under.Goals as goal
use Rattle.plain_trees.proofs.chances.has_mate_under.Goals.{else-is_at_or_below-via-then-is_at_or_below+else-are_mates, else-is_at_or_below-via-else-is_at_or_below}

pub loop-n-preserved : goal.loop-n-preserved
loop-n-preserved c = below_more _ _ c.loop-n.invariant
    (λ under mates. elim c.else-is_at_or_below.branch [
      | else-is_at_or_below-via-then-is_at_or_below+else-are_mates w ↦ ruled_out _ w.if-are_mates.false (w.are_mates.ensures.1 mates)
      | else-is_at_or_below-via-else-is_at_or_below w ↦ ruled_out _ w.if-is_at_or_below.false (c.is_at_or_below.ensures.1 under)
    ])

pub returns : goal.returns
returns c = (
  λ h. absurd (false≢true h),
  λ mate.
      let one = mate.2.1 in
      let low = (set_node c.args.game.now mate.2.0 mate.0 one.0 one.2).0 in
      absurd (c.loop-n.invariant mate.0 (omega arith) mate.1 mate.2),
)
