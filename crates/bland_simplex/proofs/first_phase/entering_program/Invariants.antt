use Rattle.std.proofs.Common.{ℕ, ◌-◌, ◌<◌}
use Rattle.bland_simplex.specs.Lowering.{Lowers}
use Rattle.bland_simplex.proofs.first_phase.entering_program.Given as goal

-- none of the columns passed is negative
abbrev pub invariant-loop-behind : goal.invariant-loop-behind
invariant-loop-behind g l = (k : ℕ) → k < l.behind → Lowers (g.T.Tableau.content l.fn.table) l.fn.shape.rows (l.fn.shape.cols - 1 - k) → ⊥
