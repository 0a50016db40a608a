-- The lists are those of the starting tableau, which is the tableau of its artificial basis.
use Rattle.std.proofs.Common.{refl, arith}
use Rattle.int_tableau.proofs.StartStored.{start_stored}
use Rattle.int_tableau.proofs.dense.Dense.start.Goals as goal

pub invariant_of-result : goal.invariant_of-result
invariant_of-result c =
    start_stored c.args.lp.now _ c.in_ok-start_rows.ensures c.in_ok-start_basis.ensures (omega (arith, c.rows-program_rows.ensures.count, c.cols-program_cols.ensures.count)) refl refl
    c.rows-program_rows.ensures.rules c.requires
