-- A turn keeps Phase's right side at 0, and an artificial column less is basic.
use Rattle.std.proofs.Common.{inr}
use Rattle.bland_simplex.proofs.Runs.{pivot_ends, error_named}
use Rattle.bland_simplex.proofs.Lowering.{lowered_after, driving_falls, ready_of, right_side_level}
use Rattle.bland_simplex.specs.Steps.{StepsEnd, IsFirstStep, stays, goes}
use Rattle.bland_simplex.proofs.driving.drive_out.Goals as goal

pub loop-least-init : goal.loop-least-init
loop-least-init g c = (c.requires, stays)

pub pivot-requires-clause-level : goal.pivot-requires-clause-level
pivot-requires-clause-level g c =
    let drives = rw (c.of-shape.ensures.rows, c.of-shape.ensures.cols) at c.in-Some.ensures in
    λ negative. right_side_level c.args.lp.now (g.T.Tableau.content c.loop-least.table) c.in-Some.least.row c.in-Some.least.col
    c.loop-least.invariant.0 drives

pub loop-least-smaller : goal.loop-least-smaller
loop-least-smaller g c =
    let drives = rw (c.of-shape.ensures.rows, c.of-shape.ensures.cols) at c.in-Some.ensures in
    driving_falls c.args.lp.now (g.T.Tableau.content c.loop-least.table) (g.T.Tableau.content c.pivot.new.self)
    c.in-Some.least.row c.in-Some.least.col c.in_ok-pivot.ensures.answer drives

pub loop-least-preserved : goal.loop-least-preserved
loop-least-preserved g c =
    let drives = rw (c.of-shape.ensures.rows, c.of-shape.ensures.cols) at c.in-Some.ensures in
    let old = g.T.Tableau.content c.loop-least.table in
    let new = g.T.Tableau.content c.pivot.new.self in (
      lowered_after c.args.lp.now old new c.in-Some.least.row c.in-Some.least.col c.loop-least.invariant.0 c.pivot.ensures.rules
          c.in_ok-pivot.ensures.answer drives,
      goes old new c.in-Some.least.row c.in-Some.least.col c.loop-least.invariant.1
          (inr record { lowered = c.loop-least.invariant.0; drives = drives }) c.in_ok-pivot.ensures.answer,
    )

pub returns-clause-ready : goal.returns-clause-ready
returns-clause-ready g c =
    let driven = rw (c.of-shape.ensures.rows, c.of-shape.ensures.cols) at c.in_default.ensures in
    ready_of c.args.lp.now (g.T.Tableau.content c.loop-least.table) c.loop-least.invariant.0 driven

pub returns-in_err-pivot-clause-end : goal.returns-in_err-pivot-clause-end
returns-in_err-pivot-clause-end g c =
    let drives = rw (c.of-shape.ensures.rows, c.of-shape.ensures.cols) at c.in-Some.ensures in
    error_named _ _ (StepsEnd (IsFirstStep c.args.lp.now) (g.T.Tableau.content c.args.table.now) (g.T.Tableau.content c.pivot.new.self))
    c.from_residual.ensures.1 (pivot_ends (g.T.Tableau.content c.args.table.now) (g.T.Tableau.content c.loop-least.table)
    (g.T.Tableau.content c.pivot.new.self) c.in-Some.least.row c.in-Some.least.col c.in_err-pivot.field-0.0 c.loop-least.invariant.1
    (inr record { lowered = c.loop-least.invariant.0; drives = drives }) c.in_err-pivot.ensures.answer)
