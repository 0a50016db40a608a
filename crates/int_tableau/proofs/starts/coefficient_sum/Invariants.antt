use Rattle.lp_form.specs.Program.{coefficient}
use Rattle.int_tableau.proofs.PartialSums.{IsSumOf}
use Rattle.int_tableau.proofs.starts.coefficient_sum.Given as goal

-- the sum of the rows passed, each of 64 bits
abbrev pub invariant-loop-row : goal.invariant-loop-row
invariant-loop-row l = IsSumOf (λ r. coefficient l.fn.lp r l.fn.col) l.row l.total
