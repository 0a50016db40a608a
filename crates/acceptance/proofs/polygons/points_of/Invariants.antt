-- The corners so far are small.
use Rattle.plain_programs.specs.SmallPolygon.{AreSmallPoints}
use Rattle.acceptance.proofs.polygons.points_of.Given as goal

abbrev pub invariant-loop-one : goal.invariant-loop-one
invariant-loop-one g l = AreSmallPoints l.points.items
