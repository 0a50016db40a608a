-- Neither a kid so far nor what is below it is the node; kids stand behind their node.
use Rattle.std.proofs.Common.{◌≡◌, ◌-◌, ◌<◌, ◌⊎◌, ℕ, length, get_or}
use Rattle.tree_recall.specs.Tree.{IsAbove}
use Rattle.plain_trees.proofs.connections.+is_above.Given as goal

abbrev pub decreases-is_above : goal.decreases-is_above
decreases-is_above l = length l.game.now.nodes - l.m

abbrev pub invariant-loop-k : goal.invariant-loop-k
invariant-loop-k l = (j : ℕ) → j < l.k → ((get_or l.kids j 0 ≡ l.n) ⊎ IsAbove l.game (get_or l.kids j 0) l.n) → ⊥
