-- None was found so far.
use Rattle.std.proofs.Common.{ℕ, ◌<◌}
use Rattle.triangle_test.specs.Triangle.{NoneWith}
use Rattle.triangle_test.proofs.triangles.triangle_from.Given as goal

abbrev pub invariant-loop-one_b : goal.invariant-loop-one_b
invariant-loop-one_b l = (k : ℕ) → k < l.one_b → NoneWith l.pairs l.one_a.0 k
