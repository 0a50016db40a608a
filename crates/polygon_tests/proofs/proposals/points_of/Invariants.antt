-- A point was put for each corner gone over.
use Rattle.std.proofs.Common.{◌≡◌, vec_len}
use Rattle.polygon_tests.proofs.proposals.points_of.Given as goal

abbrev pub invariant-loop-k : goal.invariant-loop-k
invariant-loop-k l = vec_len l.points ≡ l.k
