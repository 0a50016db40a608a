-- Counted from the other end, each column of the program was passed.
use Rattle.std.proofs.Common.{arith}
use Rattle.std.proofs.lemmas.Int.{ints}
use Rattle.bland_simplex.proofs.Orders.{none_of_program, first_of_program}
use Rattle.bland_simplex.specs.Lowering.{Lowers}
use Rattle.bland_simplex.proofs.first_phase.entering_program.Goals as goal

pub returns : goal.returns
returns g c = none_of_program c.args.shape.cols (Lowers (g.T.Tableau.content c.args.table.now) c.args.shape.rows)
    (λ k l. c.loop-behind.invariant k (omega arith))

pub returns-then-entry-lt0 : goal.returns-then-entry-lt0
returns-then-entry-lt0 g c = first_of_program c.args.shape.cols (Lowers (g.T.Tableau.content c.args.table.now) c.args.shape.rows)
    c.loop-behind.behind (omega arith) c.loop-behind.invariant (omega (arith, ints))
