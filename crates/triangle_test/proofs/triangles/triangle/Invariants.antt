-- None was found so far.
use Rattle.std.proofs.Common.{ℕ, ◌<◌}
use Rattle.triangle_test.specs.Triangle.{NoneFrom}
use Rattle.triangle_test.proofs.triangles.triangle.Given as goal

abbrev pub invariant-loop-one_a : goal.invariant-loop-one_a
invariant-loop-one_a l = (k : ℕ) → k < l.one_a → NoneFrom l.pairs k
