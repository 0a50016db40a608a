use Rattle.std.proofs.Common.{◌≡◌, ℕ, ◌+◌, ◌<◌, length, slice_index}
use Rattle.int_tableau.proofs.starts.start_basis.Given as goal

-- the artificial columns of the rows passed
abbrev pub invariant-loop-row : goal.invariant-loop-row
invariant-loop-row l = record {
  one_each : length l.basis.items ≡ l.row;
  artificial : (k : ℕ) → k < l.row → slice_index l.basis.items k ≡ l.lp.cols + k;
}
