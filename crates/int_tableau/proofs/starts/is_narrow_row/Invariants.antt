use Rattle.std.proofs.Common.{ℕ, ◌<◌}
use Rattle.corr_num.specs.Narrow.{Narrow}
use Rattle.int_tableau.specs.Start.{start_entry}
use Rattle.int_tableau.proofs.starts.is_narrow_row.Given as goal

-- the columns passed are narrow
abbrev pub invariant-loop-col : goal.invariant-loop-col
invariant-loop-col l = (k : ℕ) → k < l.col → Narrow (start_entry l.fn.lp l.fn.row k)
