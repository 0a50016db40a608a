-- No other kid so far shares a set with this one.
use Rattle.std.proofs.Common.{◌≡◌, ℕ, ◌<◌, Some, slice_get}
use Rattle.triangle_test.specs.PublicChance.{ShareSet}
use Rattle.plain_trees.proofs.chances.parts_from.Given as goal

abbrev pub invariant-loop-k : goal.invariant-loop-k
invariant-loop-k l = (j other : ℕ) → j < l.k → slice_get l.kids j ≡ Some other → (l.kid ≡ other → ⊥) → ShareSet l.game l.kid other → ⊥
