use Rattle.lp_form.specs.Program.{right_of}
use Rattle.int_tableau.proofs.PartialSums.{IsSumOf}
use Rattle.int_tableau.proofs.starts.right_sum.Given as goal

-- the sum of the rows passed, each of 64 bits
abbrev pub invariant-loop-row : goal.invariant-loop-row
invariant-loop-row l = IsSumOf (λ r. right_of l.fn.lp r) l.row l.total
