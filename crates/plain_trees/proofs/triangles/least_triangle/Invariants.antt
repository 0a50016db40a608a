-- No set so far is the first of a triangle.
use Rattle.std.proofs.Common.{ℕ, ◌<◌, ◌∷◌, []}
use Rattle.plain_trees.specs.Least.{NoneWith}
use Rattle.plain_trees.proofs.triangles.least_triangle.Given as goal

abbrev pub invariant-loop-one_a : goal.invariant-loop-one_a
invariant-loop-one_a l = (k : ℕ) → k < l.one_a → NoneWith l.game (k ∷ [])
