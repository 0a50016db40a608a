use Rattle.plane_hull.proofs.StrictPolygons.{inside_is_mixture}
use Rattle.plane_hull.proofs.laws.points_inside_are_mixtures.Goals as goal

pub returns : goal.returns
returns c = inside_is_mixture
