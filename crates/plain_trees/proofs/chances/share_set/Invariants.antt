-- No node so far, at or below the first, is of a set with a node at or below the second.
use Rattle.std.proofs.Common.{ℕ, ◌<◌}
use Rattle.plain_trees.specs.Chances.{HasMateUnder}
use Rattle.triangle_test.specs.PublicChance.{IsAtOrBelow}
use Rattle.plain_trees.proofs.chances.share_set.Given as goal

abbrev pub invariant-loop-m : goal.invariant-loop-m
invariant-loop-m l = (k : ℕ) → k < l.m → IsAtOrBelow l.game l.a k → HasMateUnder l.game k l.b → ⊥
