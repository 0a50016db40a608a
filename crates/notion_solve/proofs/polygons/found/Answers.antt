-- Corners and sides of a polygon are in the ranges of a report.
use Rattle.std.proofs.Common.{◌<◌, ◌≤◌, ◌^◌, length, arith}
use Rattle.notion_solve.proofs.Points.{certified_sides}
use Rattle.notion_solve.proofs.PointsApart.{made_belt}
use Rattle.notion_solve.proofs.Weighing.{all_side_ranges}
use Rattle.notion_solve.proofs.polygons.found.Goals as goal

pub returns-clause-ranges : goal.returns-clause-ranges
returns-clause-ranges c =
    let swept = c.requires.swept.1 in
    let some : 1 ≤ length c.in_ok-corners_of.field-0 = omega (arith, c.in_ok-corners_of.ensures.count, swept.a_corner) in
    let sides : length c.args.swept.sides < 2 ^ 64 = omega (arith, c.len.type_inv, c.len.ensures.count) in (
      (some, c.in_ok-corners_of.ensures.few),
      (swept.a_side, sides),
      c.in_ok-corners_of.ensures.ranges,
      rw c.in_ok-corners_of.ensures.count
          (all_side_ranges _ _ c.args.swept.sides swept.sides),
    )

pub returns-clause-shown : goal.returns-clause-shown
returns-clause-shown c = λ lp program swept. (
  c.in_ok-corners_of.ensures.reached lp swept.corners,
  certified_sides c.args.game.now lp c.args.swept.corners _ c.args.swept.sides program swept.corners c.in_ok-corners_of.ensures.points
      swept.sides,
)

pub returns-clause-belt : goal.returns-clause-belt
returns-clause-belt c = λ round.
    made_belt c.args.game.now c.args.swept.corners c.in_ok-corners_of.field-0 c.args.swept.sides c.len.ensures.rules
    c.in_ok-corners_of.ensures.ranges c.in_ok-corners_of.ensures.count c.in_ok-corners_of.ensures.points round
