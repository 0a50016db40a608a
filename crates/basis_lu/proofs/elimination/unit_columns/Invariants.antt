use Rattle.std.proofs.Common.{◌≡◌, vec_len}
use Rattle.basis_lu.proofs.elimination.unit_columns.Given as goal

abbrev pub invariant-loop-row : goal.invariant-loop-row
invariant-loop-row l = vec_len l.columns ≡ l.row
