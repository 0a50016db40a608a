-- No node so far, at or below the first, is of a set with a node at or below the second; and a node of a set is in the list.
use Rattle.std.proofs.Common.{below_more, arith}
use Rattle.std.proofs.lemmas.Bool.{false≢true}
use Rattle.tree_recall.proofs.Kids.{set_node}
use Rattle.triangle_test.proofs.Ruled.{ruled_out}
use Rattle.plain_trees.proofs.chances.share_set.Goals as goal
use Rattle.plain_trees.proofs.chances.share_set.Goals.{else-is_at_or_below-via-then-is_at_or_below+else-has_mate_under, else-is_at_or_below-via-else-is_at_or_below}

pub loop-m-preserved : goal.loop-m-preserved
loop-m-preserved c = below_more _ _ c.loop-m.invariant
    (λ under mate. elim c.else-is_at_or_below.branch [
      | else-is_at_or_below-via-then-is_at_or_below+else-has_mate_under w ↦ ruled_out _ w.if-has_mate_under.false
          (w.has_mate_under.ensures.1 mate)
      | else-is_at_or_below-via-else-is_at_or_below w ↦ ruled_out _ w.if-is_at_or_below.false (c.is_at_or_below.ensures.1 under)
    ])

pub returns : goal.returns
returns c = (
  λ h. absurd (false≢true h),
  λ share.
      let low = (set_node c.args.game.now share.0 share.1 share.3 share.4).0 in
      absurd (c.loop-m.invariant share.1 (omega arith) share.6 (share.2, share.7, (share.0, (share.3, share.4, share.5)))),
)
