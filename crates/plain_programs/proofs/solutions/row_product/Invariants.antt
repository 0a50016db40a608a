-- The terms so far are summed.
use Rattle.std.proofs.Common.{◌^◌, pos, ◌*ℤ◌, slice_index_or}
use Rattle.lp_form.specs.Program.{coefficient}
use Rattle.plain_programs.proofs.RunningSums.{IsSumOf}
use Rattle.plain_programs.proofs.solutions.row_product.Given as goal

abbrev pub invariant-loop-col : goal.invariant-loop-col
invariant-loop-col l = IsSumOf (λ col. coefficient l.lp l.row col *ℤ slice_index_or l.numbers col (pos 0)) (2 ^ 113) l.col l.total
