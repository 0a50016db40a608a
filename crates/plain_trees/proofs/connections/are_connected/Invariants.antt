-- No node of player 1's set so far is above or below a node of player 2's.
use Rattle.std.proofs.Common.{◌≡◌, ℕ, ◌<◌, Some}
use Rattle.corr_game.specs.declared.sides.Side.TheVariants.{One}
use Rattle.tree_recall.specs.Tree.{set_of}
use Rattle.plain_trees.specs.Meeting.{IsMetFrom}
use Rattle.plain_trees.proofs.connections.are_connected.Given as goal

abbrev pub invariant-loop-m : goal.invariant-loop-m
invariant-loop-m l = (k : ℕ) → k < l.m → set_of l.game One k ≡ Some l.one.0 → IsMetFrom l.game k l.two.0 → ⊥
