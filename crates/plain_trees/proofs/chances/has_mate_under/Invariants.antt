-- No node so far, at or below the other one, is of the set.
use Rattle.std.proofs.Common.{ℕ, ◌<◌}
use Rattle.plain_trees.specs.Chances.{AreMates}
use Rattle.triangle_test.specs.PublicChance.{IsAtOrBelow}
use Rattle.plain_trees.proofs.chances.has_mate_under.Given as goal

abbrev pub invariant-loop-n : goal.invariant-loop-n
invariant-loop-n l = (k : ℕ) → k < l.n → IsAtOrBelow l.game l.top k → AreMates l.game l.m k → ⊥
