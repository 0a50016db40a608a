-- No node so far behind this one is of its set.
use Rattle.std.proofs.Common.{◌≡◌, ℕ, ◌<◌, Some}
use Rattle.tree_recall.specs.Tree.{set_of}
use Rattle.triangle_test.proofs.chances.next_of_set.Given as goal

abbrev pub invariant-loop-m : goal.invariant-loop-m
invariant-loop-m l = (j : ℕ) → l.n < j → j < l.m → set_of l.game l.side j ≡ Some l.set.0 → ⊥
