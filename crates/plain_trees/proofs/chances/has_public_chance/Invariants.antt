-- No node so far parts a set.
use Rattle.std.proofs.Common.{ℕ, ◌<◌}
use Rattle.plain_trees.specs.Chances.{PartsSet}
use Rattle.plain_trees.proofs.chances.has_public_chance.Given as goal

abbrev pub invariant-loop-n : goal.invariant-loop-n
invariant-loop-n l = (k : ℕ) → k < l.n → PartsSet l.game k → ⊥
