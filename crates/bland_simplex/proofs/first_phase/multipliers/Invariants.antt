use Rattle.bland_simplex.proofs.Read.{AreRead}
use Rattle.bland_simplex.proofs.first_phase.multipliers.Given as goal

-- the multipliers of the rows passed
abbrev pub invariant-loop-row : goal.invariant-loop-row
invariant-loop-row g l = AreRead l.fn.shape.rows l.fn.shape.cols (g.T.Tableau.content l.fn.table) l.row l.list
