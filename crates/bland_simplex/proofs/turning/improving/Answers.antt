-- Counted from the other end, each column of the program was passed.
use Rattle.std.proofs.Common.{arith}
use Rattle.bland_simplex.proofs.Orders.{none_of_program, first_of_program}
use Rattle.bland_simplex.specs.Improving.{Improves}
use Rattle.bland_simplex.proofs.turning.improving.Goals as goal

pub returns-then-improves : goal.returns-then-improves
returns-then-improves g c = first_of_program c.args.shape.cols
    (Improves (g.T.Tableau.content c.args.table.now) c.args.shape.rows c.args.dir.now) c.loop-behind.behind (omega arith)
    c.loop-behind.invariant (c.improves.ensures.0 c.if-improves.true)

pub returns : goal.returns
returns g c = none_of_program c.args.shape.cols (Improves (g.T.Tableau.content c.args.table.now) c.args.shape.rows c.args.dir.now)
    (λ k l. c.loop-behind.invariant k (omega arith))
