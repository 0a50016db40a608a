-- The rules of a side and of an empty program's multipliers, in their order, column by column (Farkas 1902; the duality of linear
-- programs, Dantzig 1963).
use Rattle.std.specs.Prelude.{◌≡◌, ℕ, List, [], ◌∷◌, ◌++◌, Some, length, slice_get, slice_index_or, ℤ, pos, ◌+ℤ◌, ◌*ℤ◌, ◌≤ℤ◌, ◌<ℤ◌}
use Rattle.corr_game.specs.declared.sides.Side.TheVariants.{One, Two}
use Rattle.corr_game.specs.Game.{GameView}
use Rattle.corr_num.specs.Narrow.{Narrow}
use Rattle.lp_form.specs.Certificates.{left_over, times_column}
use Rattle.lp_form.specs.Program.{LpView}
use Rattle.plane_hull.specs.declared.sides.SideRow.{SideRow}
use Rattle.report_form.specs.Certified.{IsPointIn}
use Rattle.report_form.specs.declared.reports.Corner.{Corner}
use Rattle.report_form.specs.declared.verdicts.Cause.{Cause}
use Rattle.report_form.specs.declared.verdicts.Cause.TheVariants as cause
use Rattle.cert_check.specs.Rules.{IsFirstBroken, by_column}

-- a rule on how many multipliers there are, on a side's point, on a column's width or its sign, or on the first multiplier
pub data CertificateRule : Type 0 where
  per_row : CertificateRule
  point : CertificateRule
  width : ℕ → CertificateRule
  sign : ℕ → CertificateRule
  above : CertificateRule

-- how a report's verdict names it
abbrev pub cause_of : CertificateRule → Cause
cause_of per_row = cause.Length
cause_of point = cause.Point
cause_of (width column) = cause.Width
cause_of (sign column) = cause.Sign
cause_of above = cause.Sign

-- the first multipliers are the point of the side's corner
pub record IsAtCorner (g : GameView) (corners : List Corner) (side : SideRow) : Type 0 where
  pub corner : Corner
  pub at : slice_get corners side.corner ≡ Some corner
  pub point : IsPointIn g corner.point (slice_index_or side.first 0 (pos 0)) (slice_index_or side.second 0 (pos 0)) side.den

-- a rule of a side at one of these corners
abbrev pub SideRule : GameView → LpView → List Corner → SideRow → CertificateRule → Type 0
SideRule g lp corners side per_row = (length side.first ≡ length lp.rows) × (length side.second ≡ length lp.rows)
SideRule g lp corners side point = IsAtCorner g corners side
SideRule g lp corners side (width column) = Narrow (left_over lp One side.den side.first column) × Narrow (left_over lp Two side.den side.second column)
SideRule g lp corners side (sign column) =
    pos 0 ≤ℤ (side.dir.a *ℤ left_over lp One side.den side.first column +ℤ side.dir.b *ℤ left_over lp Two side.den side.second column)
SideRule g lp corners side above = Unit {0}

abbrev pub side_rules : LpView → List CertificateRule
side_rules lp = per_row ∷ point ∷ by_column width sign 0 lp.cols

-- a rule of multipliers that show that a program has no solution
abbrev pub EmptyRule : LpView → List ℤ → CertificateRule → Type 0
EmptyRule lp multipliers per_row = length multipliers ≡ length lp.rows
EmptyRule lp multipliers point = Unit {0}
EmptyRule lp multipliers (width column) = Narrow (times_column lp multipliers column)
EmptyRule lp multipliers (sign column) = times_column lp multipliers column ≤ℤ pos 0
EmptyRule lp multipliers above = pos 0 <ℤ slice_index_or multipliers 0 (pos 0)

abbrev pub empty_rules : LpView → List CertificateRule
empty_rules lp = per_row ∷ by_column width sign 0 lp.cols ++ above ∷ []

-- the first rule that doesn't hold has this cause
abbrev pub IsFirstCause : (CertificateRule → Type 0) → List CertificateRule → Cause → Type 0
IsFirstCause Holds rules cause = (rule : CertificateRule) × (cause_of rule ≡ cause) × IsFirstBroken Holds rules rule
