-- No node of the set so far has the own sequence of a node of the other.
use Rattle.std.proofs.Common.{◌≡◌, ℕ, ◌<◌, Some}
use Rattle.tree_recall.specs.Tree.{set_of}
use Rattle.plain_trees.specs.Siblings.{HasSequenceOf}
use Rattle.plain_trees.proofs.triangles.have_one_sequence.Given as goal

abbrev pub invariant-loop-m : goal.invariant-loop-m
invariant-loop-m l = (k : ℕ) → k < l.m → set_of l.game l.side k ≡ Some l.a.0 → HasSequenceOf l.game l.side k l.b.0 → ⊥
