use Rattle.std.proofs.Common.{vec_len}
use Rattle.basis_lu.proofs.remaining.Remaining.single_row.Given as goal

abbrev pub decreases-loop-row : goal.decreases-loop-row
decreases-loop-row l = vec_len l.self.single_rows
