-- What has changed so far and what the rest changes make what changes on the round.
use Rattle.std.proofs.Common.{◌≡◌, ◌+◌, ◌≤◌, drop}
use Rattle.plane_hull.specs.Belt.{changes_from, last_corner}
use Rattle.plane_hull.proofs.belts.goes_round_once.Given as goal

abbrev pub invariant-loop-side : goal.invariant-loop-side
invariant-loop-side l = record {
  counted : l.changes ≤ l.side;
  rest : l.changes + changes_from l.corner (drop l.side l.sides) ≡ changes_from (last_corner l.sides) l.sides;
}
