-- The steps of both phases and of the turn lead on from the start.
use Rattle.std.proofs.Common.{inl, refl}
use Rattle.bland_simplex.proofs.Reaching.{steps_left, steps_may}
use Rattle.bland_simplex.proofs.Runs.{error_named}
use Rattle.bland_simplex.specs.Reachable.{IsLeftWide, starts, turning}
use Rattle.bland_simplex.specs.Steps.{IsFirstStep}
use Rattle.notion_solve.proofs.Beginning.{right}
use Rattle.notion_solve.proofs.blocks.explore.Goals as goal

pub returns-in_err-feasible-clause-wide : goal.returns-in_err-feasible-clause-wide
returns-in_err-feasible-clause-wide g c =
    let lp = c.args.lp.now in
    let old = g.T.Tableau.content c.args.table.now in
    let new = g.T.Tableau.content c.feasible.new.table in
    error_named _ _ (IsLeftWide lp new) c.from_residual.ensures.1
    (steps_left lp (turning right) right (IsFirstStep lp) old new c.in_err-feasible.field-0.0 (λ t row col step. inl step) refl
    (starts right old (refl, refl) c.requires.start c.requires.rules) c.in_err-feasible.ensures.end)

pub returns-in_err-sweep-in-Start-clause-wide : goal.returns-in_err-sweep-in-Start-clause-wide
returns-in_err-sweep-in-Start-clause-wide g c =
    let lp = c.args.lp.now in
    let old = g.T.Tableau.content c.args.table.now in
    let middle = g.T.Tableau.content c.feasible.new.table in
    error_named _ _ (IsLeftWide lp (g.T.Tableau.content c.sweep.new.table)) c.from_residual-in_err-sweep-in-Start.ensures.1
    (c.in_err-sweep-in-Start.ensures.wide (λ dir is. steps_may lp (turning dir) dir (IsFirstStep lp) old middle
    (λ t row col step. inl step) refl
    (starts dir old is c.requires.start c.requires.rules) c.in_ok-feasible.ensures.steps))
