-- The nodes so far are those of the file, scaled, and the others are left.
use Rattle.std.proofs.Common.{◌≡◌, ◌++◌, length, map, drop}
use Rattle.efg_reader.specs.RawGame.{bare_nodes}
use Rattle.game_scale.specs.Amounts.{AreScaledNodes, scale_in}
use Rattle.game_scale.specs.Tree.{without_pay}
use Rattle.game_scale.proofs.amounts.scaled_nodes.Given as goal

abbrev pub invariant-loop-node : goal.invariant-loop-node
invariant-loop-node l = record {
  next : (goal.iterator-loop-node).can_next l.node-iterator;
  finite : (goal.iterator-loop-node).is_finite l.node-iterator;
  rest : drop (length l.scaled.items) l.fn.nodes.items ≡ l.node-iterator.rest.items;
  tree : map without_pay l.scaled.items ++ bare_nodes l.node-iterator.rest.items ≡ bare_nodes l.fn.nodes.items;
  each : AreScaledNodes (scale_in l.scales) l.fn.nodes.items l.paths l.scaled.items;
}
