use Rattle.std.proofs.Common.{vec_len}
use Rattle.basis_lu.proofs.remaining.Remaining.single_column.Given as goal

abbrev pub decreases-loop-candidate : goal.decreases-loop-candidate
decreases-loop-candidate l = vec_len l.self.single_columns
