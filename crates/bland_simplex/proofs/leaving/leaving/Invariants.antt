use Rattle.std.proofs.Common.{◌+◌}
use Rattle.bland_simplex.proofs.Ratios.{IsLeavingSoFar}
use Rattle.bland_simplex.proofs.leaving.leaving.Given as goal

-- the row that leaves of the rows passed
abbrev pub invariant-loop-row : goal.invariant-loop-row
invariant-loop-row g l = IsLeavingSoFar l.fn.shape.cols (l.fn.shape.cols + l.fn.shape.rows) (g.T.Tableau.content l.fn.table)
    l.fn.col l.row l.first
