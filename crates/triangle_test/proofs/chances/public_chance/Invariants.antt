-- No node so far parts from the next of its set.
use Rattle.std.proofs.Common.{ℕ, ◌<◌}
use Rattle.triangle_test.specs.Parting.{PartsFromNext}
use Rattle.triangle_test.proofs.chances.public_chance.Given as goal

abbrev pub invariant-loop-n : goal.invariant-loop-n
invariant-loop-n l = (k : ℕ) → k < l.n → PartsFromNext l.game k → ⊥
