-- The pairs gone over are of reduced plans.
use Rattle.std.proofs.Common.{◌≡◌, ℕ, ◌<◌, Some, slice_get}
use Rattle.corr_game.specs.declared.plans.Pair.{Pair}
use Rattle.deviation_gains.specs.Planned.{AreReduced}
use Rattle.deviation_gains.proofs.planned.all_planned.Given as goal

abbrev pub invariant-loop-k : goal.invariant-loop-k
invariant-loop-k l = (j : ℕ) (pair : Pair) → j < l.k → slice_get l.list j ≡ Some pair → AreReduced l.game pair
