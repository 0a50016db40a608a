use Rattle.int_tableau.proofs.Eliminating.{Passed}
use Rattle.int_tableau.proofs.rows.eliminate.Given as goal

-- the columns passed hold the quotients, the others what they held
abbrev pub invariant-loop-k : goal.invariant-loop-k
invariant-loop-k l = Passed l.fn.entries l.chosen l.fn.col l.fn.denom l.k l.entries
