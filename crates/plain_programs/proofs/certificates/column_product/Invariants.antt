-- The terms so far are summed.
use Rattle.std.proofs.Common.{◌^◌, pos, ◌*ℤ◌, slice_index_or}
use Rattle.lp_form.specs.Program.{coefficient}
use Rattle.plain_programs.proofs.RunningSums.{IsSumOf}
use Rattle.plain_programs.proofs.certificates.column_product.Given as goal

abbrev pub invariant-loop-row : goal.invariant-loop-row
invariant-loop-row l = IsSumOf (λ row. slice_index_or l.multipliers row (pos 0) *ℤ coefficient l.lp row l.col) (2 ^ 50) l.row l.total
