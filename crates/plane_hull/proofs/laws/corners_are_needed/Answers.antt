use Rattle.plane_hull.proofs.StrictPolygons.{needed}
use Rattle.plane_hull.proofs.laws.corners_are_needed.Goals as goal

pub returns : goal.returns
returns c = needed
