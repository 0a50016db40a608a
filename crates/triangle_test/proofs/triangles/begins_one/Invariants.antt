-- None was found so far.
use Rattle.std.proofs.Common.{ℕ, ◌<◌}
use Rattle.triangle_test.specs.Triangle.{NoneAcross}
use Rattle.triangle_test.proofs.triangles.begins_one.Given as goal

abbrev pub invariant-loop-two_b : goal.invariant-loop-two_b
invariant-loop-two_b l = (k : ℕ) → k < l.two_b → NoneAcross l.pairs l.one_a.0 k
