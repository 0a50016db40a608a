-- A multiplier is the difference of two numbers of 0 or more, so it is narrow as they are.
use Rattle.std.proofs.Common.{◌+◌, arith}
use Rattle.bland_simplex.proofs.Read.{read_more, read_difference}
use Rattle.bland_simplex.proofs.first_phase.multipliers.Goals as goal

pub loop-row-preserved : goal.loop-row-preserved
loop-row-preserved g c =
    let t = g.T.Tableau.content c.args.table.now in
    let rows = c.args.shape.rows in
    let cols = c.args.shape.cols in
    let n = c.loop-row.row in
    let read = read_difference c.denom-denom.result c.entry-phase.result c.difference.result t.denom (t.entry (rows + 2) (cols + n))
    c.denom-denom.ensures.value c.entry-phase.ensures.value c.denom-denom.ensures.narrow c.entry-phase.ensures.narrow
    (c.requires.open.rules.positive c.requires.open.fresh) (c.requires.stuck.not_negative (cols + n) (omega arith))
    c.difference.ensures in
    read_more rows cols t n c.loop-row.list c.push.new.self _ c.loop-row.invariant c.in_ok-push.ensures.ok read.0 read.1
