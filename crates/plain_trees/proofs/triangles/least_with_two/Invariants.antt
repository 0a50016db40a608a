-- No set so far is the next of a triangle.
use Rattle.std.proofs.Common.{ℕ, ◌<◌, ◌∷◌, []}
use Rattle.plain_trees.specs.Least.{NoneWith}
use Rattle.plain_trees.proofs.triangles.least_with_two.Given as goal

abbrev pub invariant-loop-two_a : goal.invariant-loop-two_a
invariant-loop-two_a l = (k : ℕ) → k < l.two_a → NoneWith l.game (l.one_a.0 ∷ l.one_b.0 ∷ k ∷ [])
