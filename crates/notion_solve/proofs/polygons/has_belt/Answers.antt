-- The points are those of the corners, at which the sides stand.
use Rattle.std.proofs.Common.{◌≡◌, subst, ◌∙◌, arith}
use Rattle.std.proofs.lemmas.List.{length-map}
use Rattle.report_form.specs.Points.{points_of}
use Rattle.report_form.specs.Ranges.{IsBlock}
use Rattle.report_form.specs.declared.reports.Block.{Block}
use Rattle.report_form.specs.declared.reports.Block.TheVariants.{Found}
use Rattle.report_form.specs.declared.reports.Corner.{Corner}
use Rattle.notion_solve.proofs.ExactPolygons.{sides_stand}
use Rattle.notion_solve.proofs.polygons.has_belt.Goals as goal

pub belt-requires-clause-a_corner : goal.belt-requires-clause-a_corner
belt-requires-clause-a_corner c =
    let corners = c.in-Found.corners in
    let ranges : IsBlock (Found corners c.in-Found.sides) = subst (λ (b : Block). IsBlock b) c.in-Found.is c.requires.ranges in
    let points : c.as_slice.result.now ≡ points_of corners = c.as_slice.ensures.value ∙ c.in_ok-points.ensures in
    rw points (omega (arith, ranges.0.0, length-map corners (λ (x : Corner). x.point)))

pub belt-requires-clause-corners : goal.belt-requires-clause-corners
belt-requires-clause-corners c =
    let corners = c.in-Found.corners in
    let ranges : IsBlock (Found corners c.in-Found.sides) = subst (λ (b : Block). IsBlock b) c.in-Found.is c.requires.ranges in
    let points : c.as_slice.result.now ≡ points_of corners = c.as_slice.ensures.value ∙ c.in_ok-points.ensures in
    rw points (sides_stand corners c.in-Found.sides ranges.3)
