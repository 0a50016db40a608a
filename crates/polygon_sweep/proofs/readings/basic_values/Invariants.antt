-- The rows passed have put their values in.
use Rattle.polygon_sweep.proofs.BasicValues.{ArePut}
use Rattle.polygon_sweep.proofs.readings.basic_values.Given as goal

abbrev pub invariant-loop-row : goal.invariant-loop-row
invariant-loop-row g l = ArePut (g.T.Tableau.content l.table) l.shape.rows l.shape.cols l.row l.values.items
