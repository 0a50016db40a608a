-- Each artificial column was passed as that of its row.
use Rattle.std.proofs.Common.{arith}
use Rattle.std.proofs.lemmas.Int.{ints}
use Rattle.bland_simplex.proofs.Orders.{none_of_all, first_of_artificial}
use Rattle.bland_simplex.specs.Lowering.{Lowers}
use Rattle.bland_simplex.proofs.first_phase.entering_artificial.Goals as goal

pub returns : goal.returns
returns g c = none_of_all c.args.shape.cols (Lowers (g.T.Tableau.content c.args.table.now) c.args.shape.rows)
    c.args.shape.rows c.requires.program (λ k l. c.loop-row.invariant k (omega arith))

pub returns-then-entry-lt0 : goal.returns-then-entry-lt0
returns-then-entry-lt0 g c = first_of_artificial c.args.shape.cols (Lowers (g.T.Tableau.content c.args.table.now) c.args.shape.rows)
    c.args.shape.rows c.requires.program c.loop-row.row (omega arith) c.loop-row.invariant (omega (arith, ints))
