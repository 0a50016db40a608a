-- The conditions on a corner of a polygon, in the parts in which they are tested (Dantzig 1963).
use Rattle.std.specs.Prelude.{◌≡◌, ℕ, ◌<◌, List, length, All, ℤ, pos, ◌*ℤ◌, ◌≤ℤ◌, ◌<ℤ◌}
use Rattle.exact_algebra.specs.Sums.{sum_to}
use Rattle.corr_game.specs.declared.sides.Side.TheVariants.{One, Two}
use Rattle.corr_num.specs.Narrow.{Narrow}
use Rattle.lp_form.specs.Program.{LpView, coefficient, right_of}
use Rattle.lp_form.specs.Solutions.{paid}
use Rattle.polygon_sweep.specs.Swept.{number_in}
use Rattle.polygon_sweep.specs.declared.corners.SweptCorner.{SweptCorner}

-- narrow numerators over a positive narrow denominator
pub record IsPointInRange (corner : SweptCorner) : Type 0 where
  pub positive : pos 0 <ℤ corner.den
  pub den : Narrow corner.den
  pub one : Narrow corner.one
  pub two : Narrow corner.two

-- a narrow number of 0 or more for each column, of which there are this many
pub record AreValuesInRange (cols : ℕ) (values : List ℤ) : Type 0 where
  pub count : length values ≡ cols
  pub narrow : All Narrow values
  pub not_negative : All (λ value. pos 0 ≤ℤ value) values

-- both of a corner
pub record IsInRange (cols : ℕ) (corner : SweptCorner) : Type 0 where
  pub point : IsPointInRange corner
  pub values : AreValuesInRange cols corner.values

-- a row's product with a corner's values is its denominator times the right side
abbrev pub MeetsRow : LpView → SweptCorner → ℕ → Type 0
MeetsRow lp corner row =
    sum_to lp.cols (λ col. coefficient lp row col *ℤ number_in corner.values col) ≡ corner.den *ℤ right_of lp row

abbrev pub MeetsRows : LpView → SweptCorner → Type 0
MeetsRows lp corner = (row : ℕ) → row < length lp.rows → MeetsRow lp corner row

-- a corner's values pay both players what the corner says
pub record PaysBoth (lp : LpView) (corner : SweptCorner) : Type 0 where
  pub one : corner.one ≡ paid lp One (number_in corner.values)
  pub two : corner.two ≡ paid lp Two (number_in corner.values)

-- both of a corner
pub record IsPaidSolution (lp : LpView) (corner : SweptCorner) : Type 0 where
  pub meets : MeetsRows lp corner
  pub pays : PaysBoth lp corner
