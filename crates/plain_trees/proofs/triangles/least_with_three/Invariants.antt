-- No set so far is the last of a triangle.
use Rattle.std.proofs.Common.{ℕ, ◌<◌, ◌∷◌, []}
use Rattle.plain_trees.specs.Least.{NoneWith}
use Rattle.plain_trees.proofs.triangles.least_with_three.Given as goal

abbrev pub invariant-loop-two_b : goal.invariant-loop-two_b
invariant-loop-two_b l = (k : ℕ) → k < l.two_b → NoneWith l.game (l.one_a.0 ∷ l.one_b.0 ∷ l.two_a.0 ∷ k ∷ [])
