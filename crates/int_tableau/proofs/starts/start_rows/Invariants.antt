use Rattle.std.proofs.Common.{◌≡◌, ℕ, ◌<◌, length, [], slice_index_or}
use Rattle.int_tableau.specs.StartLists.{IsStartRow}
use Rattle.int_tableau.proofs.starts.start_rows.Given as goal

-- the rows passed
abbrev pub invariant-loop-row : goal.invariant-loop-row
invariant-loop-row l = record {
  all : length l.rows.items ≡ l.row;
  each : (k : ℕ) → k < l.row → IsStartRow l.lp k (slice_index_or l.rows.items k []);
}
