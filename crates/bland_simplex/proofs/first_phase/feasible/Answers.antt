-- The start is a tableau of its own, and feasible.
use Rattle.lp_form.proofs.Certified.{shown_empty}
use Rattle.bland_simplex.proofs.Emptiness.{stuck_shows, stuck_narrow, ready_solution}
use Rattle.bland_simplex.proofs.Runs.{leads_on, ends_on, short_ends, error_named}
use Rattle.bland_simplex.proofs.Beginning.{way_of_start}
use Rattle.int_tableau.specs.declared.ends.PivotEnd.TheVariants.{NoMemory}
use Rattle.bland_simplex.specs.Steps.{StepsEnd, stays, IsFirstStep}
use Rattle.bland_simplex.proofs.first_phase.feasible.Goals as goal

pub lower_phase-requires : goal.lower_phase-requires
lower_phase-requires g c = way_of_start c.args.lp.now (g.T.Tableau.content c.args.table.now)
    c.requires.program c.requires.start c.requires.rules

pub returns-in_err-list-clause-end : goal.returns-in_err-list-clause-end
returns-in_err-list-clause-end g c =
    let start = g.T.Tableau.content c.args.table.now in
    error_named _ NoMemory (StepsEnd (IsFirstStep c.args.lp.now) start start) c.from_residual.ensures.1 (short_ends start start stays)

pub returns-in_err-drive_out-clause-end : goal.returns-in_err-drive_out-clause-end
returns-in_err-drive_out-clause-end g c =
    error_named _ _ (StepsEnd (IsFirstStep c.args.lp.now) (g.T.Tableau.content c.args.table.now)
    (g.T.Tableau.content c.drive_out.new.table)) c.from_residual-in_err-drive_out.ensures.1
    (ends_on (g.T.Tableau.content c.args.table.now) (g.T.Tableau.content c.lower_phase.new.table)
    (g.T.Tableau.content c.drive_out.new.table)
    c.in_err-drive_out.field-0.0 c.in_ok-lower_phase.ensures.steps c.in_err-drive_out.ensures.end)

pub returns-in_ok-drive_out-clause-steps : goal.returns-in_ok-drive_out-clause-steps
returns-in_ok-drive_out-clause-steps g c = leads_on (g.T.Tableau.content c.args.table.now) (g.T.Tableau.content c.lower_phase.new.table)
    (g.T.Tableau.content c.drive_out.new.table) c.in_ok-lower_phase.ensures.steps c.in_ok-drive_out.ensures.steps

pub returns-in_ok-drive_out-clause-exactly : goal.returns-in_ok-drive_out-clause-exactly
returns-in_ok-drive_out-clause-exactly g c = ready_solution c.args.lp.now (g.T.Tableau.content c.drive_out.new.table)
    c.in_ok-drive_out.ensures.ready

pub returns-in_ok-multipliers-clause-found : goal.returns-in_ok-multipliers-clause-found
returns-in_ok-multipliers-clause-found g c =
    let stuck = c.in_ok-lower_phase.ensures.stuck c.if-branch.false in
    let are = rw (c.of-shape.ensures.rows, c.of-shape.ensures.cols) at c.in_ok-multipliers.ensures.read in (
      stuck,
      are,
      stuck_shows c.args.lp.now (g.T.Tableau.content c.lower_phase.new.table)
          c.in_ok-lower_phase.ensures.way _ are c.requires.program stuck,
      stuck_narrow c.args.lp.now (g.T.Tableau.content c.lower_phase.new.table) c.in_ok-lower_phase.ensures.way _ are,
    )

pub returns-in_ok-multipliers-clause-exactly : goal.returns-in_ok-multipliers-clause-exactly
returns-in_ok-multipliers-clause-exactly g c =
    let stuck = c.in_ok-lower_phase.ensures.stuck c.if-branch.false in
    let are = rw (c.of-shape.ensures.rows, c.of-shape.ensures.cols) at c.in_ok-multipliers.ensures.read in
    shown_empty c.args.lp.now c.requires.program _
    (stuck_shows c.args.lp.now (g.T.Tableau.content c.lower_phase.new.table)
    c.in_ok-lower_phase.ensures.way _ are c.requires.program stuck)
