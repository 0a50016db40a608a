-- The basis that is listed is one at which the method is too wide, and a sweep goes round as a belt.
use Rattle.std.proofs.Common.{subst}
use Rattle.polygon_sweep.proofs.RoundBelt.{round_belt}
use Rattle.notion_solve.proofs.WideBasis.{wide_shown}
use Rattle.notion_solve.specs.declared.blocks.Outcome.{Outcome}
use Rattle.notion_solve.specs.declared.blocks.Outcome.TheVariants.{Polygon}
use Rattle.notion_solve.specs.Outcome.{IsOutcome}
use Rattle.notion_solve.proofs.blocks.by_tableau.Goals as goal

pub returns-in-Err-Wide-clause-shown : goal.returns-in-Err-Wide-clause-shown
returns-in-Err-Wide-clause-shown c = wide_shown c.args.game.now c.args.pairs.now c.args.lp.now _ c.in-Err-Wide.field-0
    c.in-Err-Wide.place c.too_wide.result c.in-Err-Wide.field-0-is c.in-Err-Wide.ensures.wide
    c.too_wide.ensures.names

pub returns-in-Ok-Polygon-clause-belt : goal.returns-in-Ok-Polygon-clause-belt
returns-in-Ok-Polygon-clause-belt c =
    let swept = c.in-Ok-Polygon.swept in
    let outcome : IsOutcome c.args.lp.now (Polygon swept) =
    subst (λ (o : Outcome). IsOutcome c.args.lp.now o) c.in-Ok-Polygon.field-0-is c.in-Ok-Polygon.ensures.outcome in
    c.in_ok-block-in-Ok-Polygon.ensures.belt (round_belt _ _ swept.sides outcome.1)
