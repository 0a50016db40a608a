-- The two comparisons tell the order of the ratios and of the ranks.
use Rattle.std.proofs.Common.{◌+◌, ◌-◌, arith}
use Rattle.bland_simplex.proofs.Ratios.{ratios_tell}
use Rattle.bland_simplex.proofs.leaving.leaves_before.Goals as goal

pub returns : goal.returns
returns g c =
    ratios_tell (g.T.Tableau.content c.args.table.now) c.args.shape.cols (c.args.shape.cols + c.args.shape.rows)
    c.args.row c.args.other c.args.col (c.cols-right.result - 1)
    _ _ _ _ _ _ _ _ c.cmp_products-ratios.result c.cmp-ranks.result c.eq.result
    (omega (arith, c.cols-right.ensures.count, c.requires.open.cols_are))
    c.entry.ensures.narrow c.entry-2.ensures.narrow c.entry-3.ensures.narrow c.entry-4.ensures.narrow c.entry.ensures.value
    c.entry-2.ensures.value c.entry-3.ensures.value c.entry-4.ensures.value
    c.basic.ensures.value c.basic-2.ensures.value c.rank.ensures c.rank-2.ensures c.cmp_products-ratios.ensures c.cmp-ranks.ensures
    (rw c.then.ensures at c.eq.ensures)
