use Rattle.plane_hull.proofs.StrictPolygons.{strict}
use Rattle.plane_hull.proofs.laws.belts_with_their_corners_inside_are_strict.Goals as goal

pub returns-clause-strict : goal.returns-clause-strict
returns-clause-strict c = strict

pub returns-clause-back : goal.returns-clause-back
returns-clause-back c = λ one two points sides low least fractions some stand polygon. record {
  first_scale = low;
  second_scale = least;
  fractions = fractions;
  some = some;
  stand = stand;
  belt = polygon.belt;
  inside = polygon.inside;
}
