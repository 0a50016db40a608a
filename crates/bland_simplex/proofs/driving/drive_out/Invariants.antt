use Rattle.bland_simplex.specs.Ready.{IsLowered}
use Rattle.bland_simplex.specs.Steps.{IsFirstStep, StepsLead}
use Rattle.bland_simplex.proofs.Lowering.{artificial_left}
use Rattle.bland_simplex.proofs.driving.drive_out.Given as goal

-- Phase's right side stays 0, and steps have led here
abbrev pub invariant-loop-least : goal.invariant-loop-least
invariant-loop-least g l = IsLowered l.fn.lp (g.T.Tableau.content l.table) × StepsLead (IsFirstStep l.fn.lp)
    (g.T.Tableau.content l.fn.table) (g.T.Tableau.content l.table)

-- the artificial columns that are basic
abbrev pub decreases-loop-least : goal.decreases-loop-least
decreases-loop-least g l = artificial_left l.fn.lp (g.T.Tableau.content l.table)
