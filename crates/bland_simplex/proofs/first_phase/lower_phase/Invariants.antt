use Rattle.bland_simplex.specs.Ready.{IsUnderWay}
use Rattle.bland_simplex.specs.Steps.{IsFirstStep, StepsLead}
use Rattle.bland_simplex.proofs.Lowering.{lowering_left}
use Rattle.bland_simplex.proofs.first_phase.lower_phase.Given as goal

-- the tableau stays one of the program's start, and feasible, and steps have led here
abbrev pub invariant-loop-shape : goal.invariant-loop-shape
invariant-loop-shape g l = IsUnderWay l.fn.lp (g.T.Tableau.content l.table) × StepsLead (IsFirstStep l.fn.lp)
    (g.T.Tableau.content l.fn.table) (g.T.Tableau.content l.table)

-- the turns that Bland's rule still takes
abbrev pub decreases-loop-shape : goal.decreases-loop-shape
decreases-loop-shape g l = lowering_left l.fn.lp (g.T.Tableau.content l.table)
