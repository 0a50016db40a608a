-- A node's set is one of its player's.
use Rattle.std.proofs.Common.{◌∙◌, sym}
use Rattle.corr_game.specs.declared.nodes.Node.TheVariants.{Choice}
use Rattle.tree_recall.proofs.Progress.{eq-same_side, same_from_side}
use Rattle.connected_pairs.proofs.table.own_set.Goals as goal

pub returns-then-eq-clause-known : goal.returns-then-eq-clause-known
returns-then-eq-clause-known c =
    let same = same_from_side c.in-Choice.mover c.args.side (sym (eq-same_side c.in-Choice.mover c.args.side) ∙ (sym c.eq.ensures ∙ c.if-eq.true)) in
    let node = rw (c.in-Choice.is, same) at c.node.ensures.item in
    (c.node.ensures.rules.each_node c.args.n (Choice c.args.side c.in-Choice.set c.in-Choice.kids) node).0
