use Rattle.plane_hull.proofs.FourSides.{four_sides}
use Rattle.plane_hull.proofs.laws.a_point_has_four_sides.Goals as goal

pub returns : goal.returns
returns c = four_sides
