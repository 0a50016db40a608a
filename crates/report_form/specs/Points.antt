-- The points of a polygon's corners.
use Rattle.std.specs.Prelude.{List, map}
use Rattle.plane_hull.specs.declared.sides.Point.{Point}
use Rattle.report_form.specs.declared.reports.Corner.{Corner}

-- each corner's point
abbrev pub points_of : List Corner → List Point
points_of corners = map (λ corner. corner.point) corners
