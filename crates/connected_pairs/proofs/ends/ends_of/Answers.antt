-- A node's end is that of the row of its kids, whose ends are found.
use Rattle.std.proofs.Common.{◌<◌, ◌-◌, ◌∙◌, length, ap, arith}
use Rattle.std.proofs.lemmas.List.{length-set}
use Rattle.corr_game.specs.declared.nodes.Node.TheVariants.{Leaf, Chance, Choice}
use Rattle.connected_pairs.proofs.RowEnds.{one_more}
use Rattle.connected_pairs.proofs.ends.ends_of.Goals as goal
use Rattle.connected_pairs.proofs.ends.ends_of.Goals.{in-Leaf, in-Chance, in-Choice}

pub end_of_row-end-requires : goal.end_of_row-end-requires
end_of_row-end-requires c =
    let n = c.len-count.result - 1 - c.loop-done.done in
    let kids = c.node.ensures.rules.each_node n (Chance c.in-Chance.kids) (rw c.in-Chance.is at c.node.ensures.item) in
    λ k d h. let kid = kids.2 k d h in omega (arith, c.loop-done.invariant.0, ap length c.deref.ensures.value)

pub end_of_row-end-requires-in-Choice : goal.end_of_row-end-requires-in-Choice
end_of_row-end-requires-in-Choice c =
    let n = c.len-count.result - 1 - c.loop-done.done in
    let kids = c.node.ensures.rules.each_node n (Choice c.in-Choice.side c.in-Choice.set c.in-Choice.kids) (rw c.in-Choice.is at c.node.ensures.item) in
    λ k d h. let kid = kids.2 k d h in omega (arith, c.loop-done.invariant.0, ap length c.deref-in-Choice.ensures.value)

pub loop-done-preserved : goal.loop-done-preserved
loop-done-preserved c =
    let g = c.args.game.now in
    let n = c.len-count.result - 1 - c.loop-done.done in
    let ends = c.loop-done.ends.items in
    let count = c.loop-done.invariant.0 in
    let low : n < length g.nodes = omega arith in
    let rules = c.node.ensures.rules in (
      length-set ends n c.match-node.end ∙ count,
      elim c.match-node.branch [
        | in-Leaf w ↦ λ m l h. one_more g rules n (Leaf w.in-Leaf.pay) ends c.match-node.end (rw w.in-Leaf.is at c.node.ensures.item) low count (λ k r s. c.loop-done.invariant.1 k (omega arith) s) w.end-is m (omega arith) h
        | in-Chance w ↦ λ m l h. one_more g rules n (Chance w.in-Chance.kids) ends c.match-node.end (rw w.in-Chance.is at c.node.ensures.item) low count (λ k r s. c.loop-done.invariant.1 k (omega arith) s) (w.end-is ∙ rw w.deref.ensures.value at w.end_of_row-end.ensures) m (omega arith) h
        | in-Choice w ↦ λ m l h. one_more g rules n (Choice w.in-Choice.side w.in-Choice.set w.in-Choice.kids) ends c.match-node.end (rw w.in-Choice.is at c.node.ensures.item) low count (λ k r s. c.loop-done.invariant.1 k (omega arith) s) (w.end-is ∙ rw w.deref-in-Choice.ensures.value at w.end_of_row-end-in-Choice.ensures) m (omega arith) h
      ],
    )
