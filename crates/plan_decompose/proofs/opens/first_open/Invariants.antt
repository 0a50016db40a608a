-- No set gone over is open.
use Rattle.std.proofs.Common.{◌≡◌, ◌<◌, ℕ, Some, slice_get}
use Rattle.plan_decompose.proofs.opens.first_open.Given as goal

abbrev pub invariant-loop-set : goal.invariant-loop-set
invariant-loop-set l = (set t : ℕ) → set < l.set → slice_get l.beside set ≡ Some (Some t) → ⊥
