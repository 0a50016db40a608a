use Rattle.std.proofs.Common.{ℕ, ◌<◌}
use Rattle.int_tableau.specs.Start.{IsNarrowRow}
use Rattle.int_tableau.proofs.starts.starts_narrow.Given as goal

-- the rows passed are narrow
abbrev pub invariant-loop-row : goal.invariant-loop-row
invariant-loop-row l = (k : ℕ) → k < l.row → IsNarrowRow l.fn.lp k
