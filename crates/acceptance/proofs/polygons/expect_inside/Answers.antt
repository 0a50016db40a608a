-- The corners that are lent are those that were made.
use Rattle.std.proofs.Common.{List, sym, subst}
use Rattle.plane_hull.specs.declared.sides.Point.{Point}
use Rattle.plain_programs.specs.SmallPolygon.{AreSmallPoints}
use Rattle.acceptance.proofs.polygons.expect_inside.Goals as goal

pub is_inside-requires-clause-small_points : goal.is_inside-requires-clause-small_points
is_inside-requires-clause-small_points g c = subst (λ (points : List Point). AreSmallPoints points) (sym c.deref.ensures.value) c.in_ok-points.ensures
