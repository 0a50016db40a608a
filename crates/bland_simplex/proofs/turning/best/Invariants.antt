use Rattle.bland_simplex.specs.Ready.{IsReady}
use Rattle.bland_simplex.specs.Steps.{IsTurning, StepsLead}
use Rattle.bland_simplex.proofs.TurnSteps.{turns_left}
use Rattle.bland_simplex.proofs.turning.best.Given as goal

-- the tableau stays ready, and steps have led here
abbrev pub invariant-loop-col : goal.invariant-loop-col
invariant-loop-col g l = IsReady l.fn.lp (g.T.Tableau.content l.table) × StepsLead (IsTurning l.fn.lp l.fn.dir)
    (g.T.Tableau.content l.fn.table) (g.T.Tableau.content l.table)

-- the turns that Bland's rule still takes
abbrev pub decreases-loop-col : goal.decreases-loop-col
decreases-loop-col g l = turns_left l.fn.lp l.fn.dir (g.T.Tableau.content l.table)
