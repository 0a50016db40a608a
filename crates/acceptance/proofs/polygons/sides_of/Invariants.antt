-- The sides so far stand at corners and are small.
use Rattle.plane_hull.specs.Belt.{StandAtCorners}
use Rattle.plain_programs.specs.SmallPolygon.{AreSmallSides}
use Rattle.acceptance.proofs.polygons.sides_of.Given as goal

abbrev pub invariant-loop-a : goal.invariant-loop-a
invariant-loop-a g l = record { stand : StandAtCorners l.fn.corners l.sides; small : AreSmallSides l.sides }
