use Rattle.std.proofs.Common.{◌≡◌, ℕ, ◌<◌, length}
use Rattle.int_tableau.specs.Elimination.{at}
use Rattle.int_tableau.specs.Start.{start_entry}
use Rattle.int_tableau.proofs.starts.start_row.Given as goal

-- the entries of the columns passed
abbrev pub invariant-loop-col : goal.invariant-loop-col
invariant-loop-col l = record {
  width : length l.entries.items ≡ l.col;
  entries_are : (k : ℕ) → k < l.col → at l.entries.items k ≡ start_entry l.lp l.fn.row k;
}
