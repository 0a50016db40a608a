-- The corner is what the tableau shows.
use Rattle.std.proofs.Common.{refl}
use Rattle.corr_num.proofs.PrintedTerms.{narrow_returned}
use Rattle.polygon_sweep.proofs.Shown.{basis_once, corner_shown}
use Rattle.polygon_sweep.proofs.readings.corner_at.Goals as goal

pub basic_values-requires-clause-once : goal.basic_values-requires-clause-once
basic_values-requires-clause-once g c = rw c.of-shape.ensures.rows (basis_once c.args.lp.now (g.T.Tableau.content c.args.table.now) c.requires)

pub returns-clause-corner : goal.returns-clause-corner
returns-clause-corner g c =
    let basic = rw (c.of-shape.ensures.rows, c.of-shape.ensures.cols) at c.in_ok-values.ensures.basic in
    let one = rw (c.of-shape.ensures.rows, c.of-shape.ensures.cols) at c.entry.ensures.value in
    let two = rw (c.of-shape.ensures.rows, c.of-shape.ensures.cols) at c.entry-2.ensures.value in
    let count = rw c.of-shape.ensures.cols at c.in_ok-values.ensures.count in
    rw (narrow_returned c.entry.result c.entry.ensures.narrow, narrow_returned c.entry-2.result c.entry-2.ensures.narrow, narrow_returned c.denom.result c.denom.ensures.narrow, c.in_ok-listed.ensures, c.as_slice.ensures.value)
    (corner_shown _ _ _ c.requires one two c.denom.ensures.value c.entry.ensures.narrow c.entry-2.ensures.narrow c.denom.ensures.narrow count c.in_ok-values.ensures.narrow basic)

pub returns-clause-reached : goal.returns-clause-reached
returns-clause-reached g c =
    let one = rw (c.of-shape.ensures.rows, c.of-shape.ensures.cols) at c.entry.ensures.value in
    let two = rw (c.of-shape.ensures.rows, c.of-shape.ensures.cols) at c.entry-2.ensures.value in
    record {
      one = rw (narrow_returned c.entry.result c.entry.ensures.narrow, narrow_returned c.denom.result c.denom.ensures.narrow, one, c.denom.ensures.value) refl;
      two = rw (narrow_returned c.entry-2.result c.entry-2.ensures.narrow, narrow_returned c.denom.result c.denom.ensures.narrow, two, c.denom.ensures.value) refl;
    }
