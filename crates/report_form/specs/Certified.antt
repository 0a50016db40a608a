-- Sides of a report that multipliers certify (the duality of linear programs, Dantzig 1963), with their points in the file's units.
use Rattle.std.specs.Prelude.{◌≡◌, ℤ, pos, ◌*ℤ◌, List, Some, slice_get, slice_index_or}
use Rattle.corr_game.specs.declared.sides.Side.TheVariants.{One, Two}
use Rattle.corr_game.specs.Game.{GameView, scale_of}
use Rattle.corr_num.specs.Fraction.{IsSameNumber}
use Rattle.lp_form.specs.Certificates.{Certify}
use Rattle.lp_form.specs.Program.{LpView}
use Rattle.plane_hull.specs.declared.sides.Point.{Point}
use Rattle.plane_hull.specs.declared.sides.SideRow.{SideRow}
use Rattle.report_form.specs.declared.reports.Corner.{Corner}

-- scaled payoffs over a denominator are this point in the file's units
pub record IsPointIn (g : GameView) (point : Point) (one two den : ℤ) : Type 0 where
  pub first : IsSameNumber point.one (record { num = one; den = den *ℤ scale_of One g })
  pub second : IsSameNumber point.two (record { num = two; den = den *ℤ scale_of Two g })

-- a side's multipliers certify its direction, and their point is its corner's
pub record IsCertified (g : GameView) (lp : LpView) (corners : List Corner) (side : SideRow) : Type 0 where
  pub multipliers : Certify lp side.dir.a side.dir.b side.den side.first side.second
  pub corner : Corner
  pub at : slice_get corners side.corner ≡ Some corner
  pub point : IsPointIn g corner.point (slice_index_or side.first 0 (pos 0)) (slice_index_or side.second 0 (pos 0)) side.den
