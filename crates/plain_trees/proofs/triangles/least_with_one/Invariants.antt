-- No set so far is the next of a triangle.
use Rattle.std.proofs.Common.{ℕ, ◌<◌, ◌∷◌, []}
use Rattle.plain_trees.specs.Least.{NoneWith}
use Rattle.plain_trees.proofs.triangles.least_with_one.Given as goal

abbrev pub invariant-loop-one_b : goal.invariant-loop-one_b
invariant-loop-one_b l = (k : ℕ) → k < l.one_b → NoneWith l.game (l.one_a.0 ∷ k ∷ [])
