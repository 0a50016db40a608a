use Rattle.std.proofs.Common.{ℕ, ◌+◌, ◌<◌}
use Rattle.bland_simplex.specs.Lowering.{Lowers}
use Rattle.bland_simplex.proofs.first_phase.entering_artificial.Given as goal

-- none of the columns passed is negative
abbrev pub invariant-loop-row : goal.invariant-loop-row
invariant-loop-row g l = (k : ℕ) → k < l.row → Lowers (g.T.Tableau.content l.fn.table) l.fn.shape.rows (l.fn.shape.cols + k) → ⊥
