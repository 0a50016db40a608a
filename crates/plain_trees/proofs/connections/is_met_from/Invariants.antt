-- No node of the set so far lies on a path with the node.
use Rattle.std.proofs.Common.{◌≡◌, ◌⊎◌, ℕ, ◌<◌, Some}
use Rattle.corr_game.specs.declared.sides.Side.TheVariants.{Two}
use Rattle.tree_recall.specs.Tree.{IsAbove, set_of}
use Rattle.plain_trees.proofs.connections.is_met_from.Given as goal

abbrev pub invariant-loop-n : goal.invariant-loop-n
invariant-loop-n l = (k : ℕ) → k < l.n → set_of l.game Two k ≡ Some l.two.0 → (IsAbove l.game l.m k ⊎ IsAbove l.game k l.m) → ⊥
