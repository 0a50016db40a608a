use Rattle.basis_lu.proofs.remaining.Remaining.lower_columns_of.Given as goal

abbrev pub decreases-loop-link : goal.decreases-loop-link
decreases-loop-link l = l.number
