use Rattle.std.proofs.Common.{◌≡◌, None}
use Rattle.bland_simplex.specs.Driven.{IsZeroRow, FindsOut}
use Rattle.bland_simplex.proofs.driving.smaller_in_row.Given as goal

-- the entry so far, or entries that are 0 and no candidate at first
abbrev pub invariant-loop-col : goal.invariant-loop-col
invariant-loop-col g l = let t = g.T.Tableau.content l.fn.table in FindsOut t l.fn.shape.rows l.fn.shape.cols
    ((l.fn.best ≡ None) × IsZeroRow t l.col l.fn.row) l.least
