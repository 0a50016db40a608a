-- A corner more is in its ranges, with its pairs of plans.
use Rattle.std.proofs.Common.{◌+◌, ◌∙◌, ℕ, ap, arith}
use Rattle.std.proofs.lemmas.List.{length_push}
use Rattle.std.proofs.lemmas.List.Elements.{All-push}
use Rattle.std.proofs.lemmas.Option.{slice_get_within}
use Rattle.report_form.specs.Ranges.{IsCorner}
use Rattle.notion_solve.proofs.Points.{corner_among, points_more}
use Rattle.notion_solve.specs.Shown.{IsReached}
use Rattle.notion_solve.specs.Spread.{IsSpread}
use Rattle.notion_solve.proofs.corners.corners_of.Goals as goal

pub loop-k-preserved : goal.loop-k-preserved
loop-k-preserved c =
    let before = c.loop-k.invariant in
    let made = c.in_ok-corner_of in
    let corners = c.loop-k.corners in
    rw c.in_ok-push.ensures.ok (
      length_push corners made.field-0 ∙ ap (λ (n : ℕ). n + 1) before.0,
      All-push IsCorner corners made.field-0 before.1 made.ensures.ranges,
      All-push (IsSpread c.args.pairs.now) corners made.field-0 before.2 made.ensures.spread,
      points_more c.args.game.now c.args.swept.now c.loop-k.k corners made.field-0 _ before.0 before.3 c.at.ensures.item made.ensures.point,
      λ lp all. All-push (IsReached c.args.game.now c.args.pairs.now lp) corners made.field-0 (before.4 lp all)
          (made.ensures.reached lp (corner_among lp c.args.swept.now c.loop-k.k _ all c.at.ensures.item)),
    )

pub returns-clause-points : goal.returns-clause-points
returns-clause-points c = λ k found here.
    let inside = slice_get_within c.args.swept.now k found here in
    c.loop-k.invariant.3 k found (omega (arith, inside)) here
