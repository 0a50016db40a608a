-- A node's set is one of its player's, and the nodes below it end in the list.
use Rattle.std.proofs.Common.{◌≡◌, ◌<◌, Some, None, length, refl, ◌∙◌, arith}
use Rattle.std.proofs.lemmas.List.{get_or_default}
use Rattle.corr_game.specs.declared.nodes.Node.TheVariants.{Choice}
use Rattle.corr_game.specs.Preorder.{end_of}
use Rattle.tree_recall.specs.Tree.{set_of}
use Rattle.tree_recall.proofs.Progress.{same_side-refl}
use Rattle.connected_pairs.specs.Table.{other}
use Rattle.connected_pairs.proofs.Marking.{other_apart, marked_passed, marked_below, marked_all}
use Rattle.corr_game.proofs.Rows.{end_of-at_most}
use Rattle.connected_pairs.proofs.table.connected_sets.Goals as goal
use Rattle.connected_pairs.proofs.table.connected_sets.Goals.{in-Leaf, in-Chance, in-Choice}

pub connect_below-requires-clause-known : goal.connect_below-requires-clause-known
connect_below-requires-clause-known c =
    (c.node.ensures.rules.each_node c.loop-n.n (Choice c.in-Choice.side c.in-Choice.set c.in-Choice.kids) (rw c.in-Choice.is at c.node.ensures.item)).0

pub connect_below-requires-clause-in_list : goal.connect_below-requires-clause-in_list
connect_below-requires-clause-in_list c =
    let low : c.loop-n.n < length c.args.game.now.nodes = omega arith in
    let room : c.loop-n.n < length c.in_ok-ends.ends.items = omega (arith, c.in_ok-ends.ensures.per_node) in
    omega (arith, c.index.ensures, get_or_default c.in_ok-ends.ends.items c.loop-n.n c.index.result.now 0 room, c.in_ok-ends.ensures.each c.loop-n.n low, end_of-at_most c.args.game.now c.node.ensures.rules c.loop-n.n low)

pub loop-n-preserved : goal.loop-n-preserved
loop-n-preserved c =
    let g = c.args.game.now in
    let n = c.loop-n.n in
    let table = c.loop-n.table.items in
    let p = c.loop-n.invariant in
    let low : n < length g.nodes = omega arith in
    elim c.match-node.branch [
      | in-Leaf w ↦
          let node = rw w.in-Leaf.is at c.node.ensures.item in
          rw w.table-is record { size = p.size; marked = marked_passed g n table p.marked (λ side. rw node refl) }
      | in-Chance w ↦
          let node = rw w.in-Chance.is at c.node.ensures.item in
          rw w.table-is record { size = p.size; marked = marked_passed g n table p.marked (λ side. rw node refl) }
      | in-Choice w ↦
          let node = rw w.in-Choice.is at c.node.ensures.item in
          let side = w.in-Choice.side in
          let own : set_of g side n ≡ Some w.in-Choice.set.0 = rw (node, same_side-refl side) refl in
          let apart : set_of g (other side) n ≡ None = rw (node, other_apart side) refl in
          let room : n < length c.in_ok-ends.ends.items = omega (arith, c.in_ok-ends.ensures.per_node) in
          let end : w.index.result.now ≡ end_of g.nodes n = omega (arith, w.index.ensures, get_or_default c.in_ok-ends.ends.items n w.index.result.now 0 room, c.in_ok-ends.ensures.each n low) in
          rw w.table-is record {
            size = w.connect_below.ensures.size ∙ p.size;
            marked = marked_below g c.node.ensures.rules n side w.in-Choice.set.0 w.index.result.now table _ p.marked low own apart end w.connect_below.ensures.below;
          }
    ]

pub returns-clause-connected : goal.returns-clause-connected
returns-clause-connected c = marked_all c.args.game.now c.len-n-end.ensures.rules c.loop-n.n c.loop-n.table.items c.loop-n.invariant.marked (omega arith)
