use Rattle.std.proofs.Common.{ℕ, ◌<◌}
use Rattle.bland_simplex.specs.Driven.{IsIdle, FindsOut}
use Rattle.bland_simplex.proofs.driving.smallest.Given as goal

-- the entry so far, or rows that are idle
abbrev pub invariant-loop-row : goal.invariant-loop-row
invariant-loop-row g l = let t = g.T.Tableau.content l.fn.table in FindsOut t l.fn.shape.rows l.fn.shape.cols
    ((row : ℕ) → row < l.row → IsIdle t l.fn.shape.cols row) l.least
