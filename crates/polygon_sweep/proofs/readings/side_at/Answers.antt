-- The side is made of the entries in the artificial columns.
use Rattle.corr_num.proofs.PrintedTerms.{narrow_returned}
use Rattle.polygon_sweep.proofs.Certifying.{point_shown, side_shown}
use Rattle.polygon_sweep.proofs.readings.side_at.Goals as goal

pub returns-clause-side : goal.returns-clause-side
returns-clause-side g c =
    let first = rw (c.of-shape.ensures.rows, c.of-shape.ensures.cols) at c.in_ok-multipliers.ensures in
    let second = rw (c.of-shape.ensures.rows, c.of-shape.ensures.cols) at c.in_ok-multipliers-2.ensures in
    rw (narrow_returned c.denom.result c.denom.ensures.narrow)
    (side_shown c.args.lp.now (g.T.Tableau.content c.args.table.now) c.requires.ready _ c.requires.coprime c.requires.bounding
    c.denom.ensures.value first second c.denom.ensures.narrow)

pub returns-clause-point : goal.returns-clause-point
returns-clause-point g c =
    let first = rw (c.of-shape.ensures.rows, c.of-shape.ensures.cols) at c.in_ok-multipliers.ensures in
    let second = rw (c.of-shape.ensures.rows, c.of-shape.ensures.cols) at c.in_ok-multipliers-2.ensures in
    rw (narrow_returned c.denom.result c.denom.ensures.narrow)
    (point_shown c.args.lp.now (g.T.Tableau.content c.args.table.now) c.requires.ready _ c.requires.coprime c.requires.bounding
    c.denom.ensures.value first second)
