-- The tableau is ready and optimal for the direction, the present corner is one of those found, and what was found is a part of the
-- polygon's belt. Each turn raises the direction's rank. The method may lead to the tableau, heading
-- there. Corner 0 is the first one, and the sides so far go round from there.
use Rattle.std.proofs.Common.{length}
use Rattle.bland_simplex.specs.Improving.{IsOptimal}
use Rattle.bland_simplex.specs.Reachable.{MayBeginAt, MayReach, turning}
use Rattle.bland_simplex.specs.Ready.{IsReady}
use Rattle.polygon_sweep.specs.Swept.{IsAt, IsCoprime, IsSwept}
use Rattle.polygon_sweep.proofs.Ranks.{rank_left}
use Rattle.polygon_sweep.proofs.Returning.{HasFirst}
use Rattle.polygon_sweep.proofs.Rounds.{GoesRound}
use Rattle.polygon_sweep.proofs.sweeps.sweep.Given as goal

abbrev pub invariant-loop-shape : goal.invariant-loop-shape
invariant-loop-shape g l =
    IsReady l.lp (g.T.Tableau.content l.table)
    × IsOptimal (g.T.Tableau.content l.table) (length l.lp.rows) l.lp.cols l.dir
    × IsCoprime l.dir
    × IsAt l.lp (g.T.Tableau.content l.table) l.swept.corners l.present
    × IsSwept l.lp l.swept
    × (MayBeginAt l.lp (g.T.Tableau.content l.fn.table) → MayReach l.lp (turning l.dir) (g.T.Tableau.content l.table))
    × HasFirst l.lp l.swept.corners
    × GoesRound l.swept l.dir l.present

abbrev pub decreases-loop-shape : goal.decreases-loop-shape
decreases-loop-shape g l = rank_left l.dir
