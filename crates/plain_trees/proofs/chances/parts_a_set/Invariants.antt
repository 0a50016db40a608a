-- No kid so far shares a set with another one.
use Rattle.std.proofs.Common.{◌≡◌, ℕ, ◌<◌, Some, slice_get}
use Rattle.plain_trees.specs.Chances.{PartsFrom}
use Rattle.plain_trees.proofs.chances.parts_a_set.Given as goal

abbrev pub invariant-loop-k : goal.invariant-loop-k
invariant-loop-k l = (j kid : ℕ) → j < l.k → slice_get l.kids j ≡ Some kid → PartsFrom l.game l.kids kid → ⊥
