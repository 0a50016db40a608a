-- The moves so far and the own moves on the path to the node that is reached are those on the path to the first one.
use Rattle.std.proofs.Common.{ℕ, ◌<◌, List, ◌++◌, length}
use Rattle.corr_game.specs.declared.nodes.SetId.{SetId}
use Rattle.tree_recall.specs.OwnSequence.{IsOwnAt}
use Rattle.plain_trees.proofs.own_moves.own_sequence.Given as goal

abbrev pub invariant-loop-step : goal.invariant-loop-step
invariant-loop-step l = record {
  inside : l.at < length l.game.nodes;
  so_far : (rest : List (SetId × ℕ)) → IsOwnAt l.game l.side l.at rest → IsOwnAt l.game l.side l.n (l.moves.items ++ rest);
}

abbrev pub decreases-loop-step : goal.decreases-loop-step
decreases-loop-step l = l.at
