-- The side before this one and this one are those of the list.
use Rattle.plane_hull.proofs.Reading.{turn_told}
use Rattle.plane_hull.proofs.belts.is_in_turn.Goals as goal

pub returns-else-side-eq0 : goal.returns-else-side-eq0
returns-else-side-eq0 c =
    turn_told c.args.points.now c.args.sides.now c.args.side c.at.result.now c.at-here.result.now c.may_follow.result
    c.if-side-eq0.false c.at.ensures.item c.at-here.ensures.item c.may_follow.ensures
