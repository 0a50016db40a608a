-- Two directions are one where their numbers are.
use Rattle.plane_hull.proofs.Reading.{direction_told}
use Rattle.plane_hull.proofs.belts.same_direction.Goals as goal

pub returns : goal.returns
returns c = direction_told c.args.x.now.dir c.args.y.now.dir c.eq.result c.eq.ensures
