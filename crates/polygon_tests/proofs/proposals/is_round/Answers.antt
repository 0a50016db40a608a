-- What was accepted has corners of the program, and its sides stand at them.
use Rattle.std.proofs.Common.{◌≡◌, length, ◌∙◌}
use Rattle.polygon_sweep.specs.Swept.{IsSwept}
use Rattle.polygon_tests.proofs.Standing.{sides_stand}
use Rattle.polygon_tests.proofs.proposals.is_round.Goals as goal

pub points_of-requires : goal.points_of-requires
points_of-requires c =
    let swept : IsSwept c.args.lp.now c.args.swept.now = c.in_ok-is_polygon.ensures.0 c.if-not-branch.false in
    (c.args.lp.now, swept.corners)

pub belt-requires-clause-corners : goal.belt-requires-clause-corners
belt-requires-clause-corners c =
    let swept : IsSwept c.args.lp.now c.args.swept.now = c.in_ok-is_polygon.ensures.0 c.if-not-branch.false in
    let count : length c.deref.result.now ≡ length c.args.swept.now.corners = c.deref.ensures.len ∙ c.in_ok-points.ensures in
    rw count (sides_stand c.args.lp.now c.args.swept.now.corners c.args.swept.now.sides swept.sides)
