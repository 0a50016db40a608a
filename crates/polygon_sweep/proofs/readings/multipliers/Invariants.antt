-- An entry for each row passed.
use Rattle.polygon_sweep.specs.Swept.{AreEntries}
use Rattle.polygon_sweep.proofs.readings.multipliers.Given as goal

abbrev pub invariant-loop-col : goal.invariant-loop-col
invariant-loop-col g l = AreEntries (g.T.Tableau.content l.fn.table) l.fn.row l.fn.shape.cols l.col l.list
