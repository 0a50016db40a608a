-- No node of the set so far has the own sequence of the node.
use Rattle.std.proofs.Common.{◌≡◌, ℕ, ◌<◌, Some}
use Rattle.tree_recall.specs.Tree.{set_of}
use Rattle.plain_trees.specs.Siblings.{HaveOwnAlike}
use Rattle.plain_trees.proofs.triangles.has_sequence_of.Given as goal

abbrev pub invariant-loop-n : goal.invariant-loop-n
invariant-loop-n l = (k : ℕ) → k < l.n → set_of l.game l.side k ≡ Some l.set.0 → HaveOwnAlike l.game l.side l.m k → ⊥
