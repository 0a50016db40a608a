use Rattle.basis_lu.proofs.counts.ones.Given as goal

abbrev pub decreases-loop-at : goal.decreases-loop-at
decreases-loop-at l = l.at
