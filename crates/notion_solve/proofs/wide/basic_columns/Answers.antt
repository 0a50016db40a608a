-- A row's basic column is marked.
use Rattle.std.proofs.Common.{◌<◌, ◌∙◌, true, length, length-set, arith}
use Rattle.notion_solve.proofs.Marking.{all_marked, only_marked}
use Rattle.notion_solve.proofs.wide.basic_columns.Goals as goal

pub loop-row-preserved : goal.loop-row-preserved
loop-row-preserved g c =
    let basic = (g.T.Tableau.content c.args.table.now).basic in
    let marks = c.loop-row.basic.items in
    let marked = c.basic.ensures.value in
    let inside : basic c.loop-row.row < length marks = omega
    (arith, c.basic.ensures.value, c.basic.ensures.column, c.loop-row.invariant.0) in
    rw marked (
      length-set marks (basic c.loop-row.row) true ∙ c.loop-row.invariant.0,
      all_marked basic c.loop-row.row marks inside
          c.loop-row.invariant.1,
      only_marked basic c.loop-row.row marks c.loop-row.invariant.2,
    )
