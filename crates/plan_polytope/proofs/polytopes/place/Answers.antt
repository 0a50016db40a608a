-- Whichever player's row it is, the column found is that of a relevant pair.
use Rattle.std.proofs.Common.{sym, ◌∙◌, arith}
use Rattle.plan_polytope.proofs.Columns.{column_in}
use Rattle.plan_polytope.proofs.polytopes.place.Goals as goal

pub set-requires-clause-in_columns : goal.set-requires-clause-in_columns
set-requires-clause-in_columns c =
    let p = c.args.pairs.now in
    omega (arith, column_in p c.column.ensures.rules c.args.row.1 c.args.at.0 c.args.at.1 c.in-Some.col (sym c.column.ensures.value ∙ c.in-Some.is), c.requires.columns)
