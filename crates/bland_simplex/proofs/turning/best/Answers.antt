-- A turn is a step of Bland's rule by the ratio rule.
use Rattle.bland_simplex.proofs.Optima.{greatest}
use Rattle.bland_simplex.proofs.Runs.{pivot_ends, error_named}
use Rattle.bland_simplex.proofs.TurnSteps.{turning_ratio, turning_falls, ready_after}
use Rattle.bland_simplex.specs.Steps.{StepsEnd, stays, goes, IsTurning}
use Rattle.bland_simplex.proofs.turning.best.Goals as goal

pub loop-col-init : goal.loop-col-init
loop-col-init g c = (c.requires.ready, stays)

pub leaving-row-requires-clause-some_row : goal.leaving-row-requires-clause-some_row
leaving-row-requires-clause-some_row g c =
    let first = rw (c.of-shape.ensures.rows, c.of-shape.ensures.cols) at c.in-Some.ensures in
    rw c.of-shape.ensures.rows (turning_ratio c.args.lp.now (g.T.Tableau.content c.loop-col.table)
    c.args.dir.now c.in-Some.col c.loop-col.invariant.0 c.requires.bounded first.offered_is first.may)

pub loop-col-smaller : goal.loop-col-smaller
loop-col-smaller g c =
    let first = rw (c.of-shape.ensures.rows, c.of-shape.ensures.cols) at c.in-Some.ensures in
    let leaves = rw (c.of-shape.ensures.rows, c.of-shape.ensures.cols) at c.leaving-row.ensures in
    let old = g.T.Tableau.content c.loop-col.table in
    let new = g.T.Tableau.content c.pivot.new.self in
    let pivoted = c.in_ok-pivot.ensures.answer in
    let after = ready_after c.args.lp.now old new c.leaving-row.result c.in-Some.col c.loop-col.invariant.0 c.pivot.ensures.rules pivoted
    first.offered_is leaves.ratio in
    turning_falls c.args.lp.now old new c.args.dir.now c.leaving-row.result c.in-Some.col c.loop-col.invariant.0 after pivoted first leaves

pub loop-col-preserved : goal.loop-col-preserved
loop-col-preserved g c =
    let first = rw (c.of-shape.ensures.rows, c.of-shape.ensures.cols) at c.in-Some.ensures in
    let leaves = rw (c.of-shape.ensures.rows, c.of-shape.ensures.cols) at c.leaving-row.ensures in
    let old = g.T.Tableau.content c.loop-col.table in
    let new = g.T.Tableau.content c.pivot.new.self in
    let ready = c.loop-col.invariant.0 in
    let pivoted = c.in_ok-pivot.ensures.answer in (
      ready_after c.args.lp.now old new c.leaving-row.result c.in-Some.col ready c.pivot.ensures.rules pivoted first.offered_is
          leaves.ratio,
      goes old new c.leaving-row.result c.in-Some.col c.loop-col.invariant.1 record
          { ready = ready; in_columns = first.offered_is; improves = first.may; ratio = leaves.ratio } pivoted,
    )

pub returns-in_err-pivot-clause-end : goal.returns-in_err-pivot-clause-end
returns-in_err-pivot-clause-end g c =
    let first = rw (c.of-shape.ensures.rows, c.of-shape.ensures.cols) at c.in-Some.ensures in
    let leaves = rw (c.of-shape.ensures.rows, c.of-shape.ensures.cols) at c.leaving-row.ensures in
    let step : IsTurning c.args.lp.now c.args.dir.now (g.T.Tableau.content c.loop-col.table)
    c.leaving-row.result c.in-Some.col = record
    { ready = c.loop-col.invariant.0; in_columns = first.offered_is; improves = first.may; ratio = leaves.ratio } in
    error_named _ _ (StepsEnd (IsTurning c.args.lp.now c.args.dir.now) (g.T.Tableau.content c.args.table.now)
    (g.T.Tableau.content c.pivot.new.self)) c.from_residual.ensures.1
    (pivot_ends (g.T.Tableau.content c.args.table.now) (g.T.Tableau.content c.loop-col.table) (g.T.Tableau.content c.pivot.new.self)
    c.leaving-row.result c.in-Some.col c.in_err-pivot.field-0.0 c.loop-col.invariant.1 step c.in_err-pivot.ensures.answer)

pub returns-clause-greatest : goal.returns-clause-greatest
returns-clause-greatest g c =
    let optimal = rw (c.of-shape.ensures.rows, c.of-shape.ensures.cols) at c.in_default.ensures in
    greatest c.args.lp.now (g.T.Tableau.content c.loop-col.table) c.loop-col.invariant.0 c.args.dir.now optimal
