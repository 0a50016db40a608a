-- One node more, of the set above with a node of the other set below it or not.
use Rattle.std.proofs.Common.{sym, ◌∙◌, arith}
use Rattle.std.proofs.lemmas.Bool.{and_left, and_right}
use Rattle.plain_programs.proofs.Leading.{node_found, node_passed}
use Rattle.plain_programs.proofs.grafts.is_below.Goals as goal
use Rattle.plain_programs.proofs.grafts.is_below.Goals.{else-is_of_set-via-then-is_of_set+else-holds_below}
use Rattle.plain_programs.proofs.grafts.is_below.Goals.{else-is_of_set-via-else-is_of_set}

pub returns-then-holds_below : goal.returns-then-holds_below
returns-then-holds_below c =
    node_found c.args.side c.args.game.now c.args.above.0 c.args.set.0 c.loop-n.n _ (omega arith) c.node.ensures.item c.loop-n.invariant
    (sym c.is_of_set.ensures ∙ c.if-is_of_set.true) (sym (c.holds_below.ensures _ c.node.ensures.item) ∙ c.if-holds_below.true)

pub loop-n-preserved : goal.loop-n-preserved
loop-n-preserved c =
    node_passed c.args.side c.args.game.now c.args.above.0 c.args.set.0 c.loop-n.n _ (omega arith) c.node.ensures.item c.loop-n.invariant
    (elim c.else-is_of_set.branch [
      | else-is_of_set-via-then-is_of_set+else-holds_below w ↦ and_right _ _
          (sym (w.holds_below.ensures _ c.node.ensures.item) ∙ w.if-holds_below.false)
      | else-is_of_set-via-else-is_of_set w ↦ and_left _ _ (sym c.is_of_set.ensures ∙ w.if-is_of_set.false)
    ])
