-- A turn is a step of Bland's rule by the ratio rule.
use Rattle.std.proofs.Common.{inl}
use Rattle.bland_simplex.proofs.Runs.{pivot_ends, error_named}
use Rattle.bland_simplex.proofs.Lowering.{lowering_row, lowering_falls}
use Rattle.bland_simplex.proofs.Wholes.{way_after}
use Rattle.bland_simplex.specs.Steps.{StepsEnd, IsFirstStep, stays, goes, IsLowering}
use Rattle.bland_simplex.proofs.first_phase.lower_phase.Goals as goal

pub loop-shape-init : goal.loop-shape-init
loop-shape-init g c = (c.requires, stays)

pub leaving-row-requires-clause-some_row : goal.leaving-row-requires-clause-some_row
leaving-row-requires-clause-some_row g c =
    let first = rw (c.of-shape.ensures.rows, c.of-shape.ensures.cols) at c.in-Some.ensures in
    rw c.of-shape.ensures.rows (lowering_row c.args.lp.now (g.T.Tableau.content c.loop-shape.table)
    c.in-Some.col c.loop-shape.invariant.0 first.offered_is first.may)

pub loop-shape-smaller : goal.loop-shape-smaller
loop-shape-smaller g c =
    let first = rw (c.of-shape.ensures.rows, c.of-shape.ensures.cols) at c.in-Some.ensures in
    let leaves = rw (c.of-shape.ensures.rows, c.of-shape.ensures.cols) at c.leaving-row.ensures in
    let old = g.T.Tableau.content c.loop-shape.table in
    let new = g.T.Tableau.content c.pivot.new.self in
    let pivoted = c.in_ok-pivot.ensures.answer in
    let after = way_after c.args.lp.now old new c.leaving-row.result c.in-Some.col c.loop-shape.invariant.0 c.pivot.ensures.rules pivoted
    first.offered_is leaves.ratio in
    lowering_falls c.args.lp.now old new c.leaving-row.result c.in-Some.col c.loop-shape.invariant.0 after pivoted first leaves

pub loop-shape-preserved : goal.loop-shape-preserved
loop-shape-preserved g c =
    let first = rw (c.of-shape.ensures.rows, c.of-shape.ensures.cols) at c.in-Some.ensures in
    let leaves = rw (c.of-shape.ensures.rows, c.of-shape.ensures.cols) at c.leaving-row.ensures in
    let old = g.T.Tableau.content c.loop-shape.table in
    let new = g.T.Tableau.content c.pivot.new.self in
    let way = c.loop-shape.invariant.0 in
    let pivoted = c.in_ok-pivot.ensures.answer in (
      way_after c.args.lp.now old new c.leaving-row.result c.in-Some.col way c.pivot.ensures.rules pivoted first.offered_is leaves.ratio,
      goes old new c.leaving-row.result c.in-Some.col c.loop-shape.invariant.1
          (inl record { way = way; in_columns = first.offered_is; lowers = first.may; ratio = leaves.ratio }) pivoted,
    )

pub returns-in_err-pivot-clause-end : goal.returns-in_err-pivot-clause-end
returns-in_err-pivot-clause-end g c =
    let first = rw (c.of-shape.ensures.rows, c.of-shape.ensures.cols) at c.in-Some.ensures in
    let leaves = rw (c.of-shape.ensures.rows, c.of-shape.ensures.cols) at c.leaving-row.ensures in
    let step : IsLowering c.args.lp.now (g.T.Tableau.content c.loop-shape.table)
    c.leaving-row.result c.in-Some.col = record
    { way = c.loop-shape.invariant.0; in_columns = first.offered_is; lowers = first.may; ratio = leaves.ratio } in
    error_named _ _ (StepsEnd (IsFirstStep c.args.lp.now) (g.T.Tableau.content c.args.table.now) (g.T.Tableau.content c.pivot.new.self))
    c.from_residual.ensures.1
    (pivot_ends (g.T.Tableau.content c.args.table.now) (g.T.Tableau.content c.loop-shape.table) (g.T.Tableau.content c.pivot.new.self)
    c.leaving-row.result c.in-Some.col c.in_err-pivot.field-0.0 c.loop-shape.invariant.1 (inl step) c.in_err-pivot.ensures.answer)
