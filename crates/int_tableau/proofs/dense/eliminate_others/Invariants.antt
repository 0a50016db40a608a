use Rattle.int_tableau.proofs.Eliminating.{PassedRows}
use Rattle.int_tableau.proofs.dense.eliminate_others.Given as goal

-- the rows passed are eliminated, but for the pivot's, the others as they were
abbrev pub invariant-loop-i : goal.invariant-loop-i
invariant-loop-i l = PassedRows l.fn.rows l.fn.at l.chosen l.fn.col l.fn.denom l.i l.rows
