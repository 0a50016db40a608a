use Rattle.std.proofs.Common.{ℕ, ◌-◌, ◌<◌}
use Rattle.bland_simplex.specs.Improving.{Improves}
use Rattle.bland_simplex.proofs.turning.improving.Given as goal

-- none of the columns passed improves
abbrev pub invariant-loop-behind : goal.invariant-loop-behind
invariant-loop-behind g l = (k : ℕ) → k < l.behind → Improves (g.T.Tableau.content l.fn.table) l.fn.shape.rows l.fn.dir
    (l.fn.shape.cols - 1 - k) → ⊥
