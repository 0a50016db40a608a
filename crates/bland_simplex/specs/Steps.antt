-- The steps of the simplex method in two phases, and the tableaus and bases to which they lead (Dantzig 1963).
use Rattle.std.specs.Prelude.{◌≡◌, ◌⊎◌, ℕ, ◌+◌, ◌<◌, length}
use Rattle.exact_linear.specs.Simplex.{IsLeastRatio}
use Rattle.lp_form.specs.Program.{LpView}
use Rattle.lp_form.specs.declared.places.Place.{Place}
use Rattle.plane_hull.specs.declared.directions.Dir.{Dir}
use Rattle.int_tableau.specs.declared.ends.PivotEnd.{PivotEnd}
use Rattle.int_tableau.specs.declared.ends.PivotEnd.TheVariants.{Wide, NoMemory}
use Rattle.int_tableau.specs.Content.{Content}
use Rattle.int_tableau.specs.Pivot.{IsPivoted, EndsWide}
use Rattle.bland_simplex.specs.Driven.{DrivesOut}
use Rattle.bland_simplex.specs.Improving.{Improves}
use Rattle.bland_simplex.specs.Lowering.{Lowers}
use Rattle.bland_simplex.specs.Ready.{IsUnderWay, IsLowered, IsReady}

-- a column that is negative in Phase enters by the ratio rule
pub record IsLowering (lp : LpView) (t : Content) (row col : ℕ) : Type 0 where
  pub way : IsUnderWay lp t
  pub in_columns : col < lp.cols + length lp.rows
  pub lowers : Lowers t (length lp.rows) col
  pub ratio : IsLeastRatio (length lp.rows) (lp.cols + length lp.rows) t.entry row col

-- where Phase's right side is 0, a column of the program enters in the place of an artificial one
pub record IsDriving (lp : LpView) (t : Content) (row col : ℕ) : Type 0 where
  pub lowered : IsLowered lp t
  pub drives : DrivesOut t (length lp.rows) lp.cols row col

-- a step of the first phase
abbrev pub IsFirstStep : LpView → Content → ℕ → ℕ → Type 0
IsFirstStep lp t row col = IsLowering lp t row col ⊎ IsDriving lp t row col

-- a column of the program that improves for the direction enters by the ratio rule
pub record IsTurning (lp : LpView) (dir : Dir) (t : Content) (row col : ℕ) : Type 0 where
  pub ready : IsReady lp t
  pub in_columns : col < lp.cols
  pub improves : Improves t (length lp.rows) dir col
  pub ratio : IsLeastRatio (length lp.rows) (lp.cols + length lp.rows) t.entry row col

-- pivots that are such steps lead from one tableau to another
pub data StepsLead (Step : Content → ℕ → ℕ → Type 0) (first : Content) : Content → Type 0 where
  stays : StepsLead Step first first
  goes : (last next : Content) (row col : ℕ) →
      StepsLead Step first last → Step last row col → IsPivoted last next row col → StepsLead Step first next

-- the last of such steps leads to a basis whose tableau is wide at the place
pub record StepsLeadWide (Step : Content → ℕ → ℕ → Type 0) (first new : Content) (place : Place) : Type 0 where
  pub last : Content
  pub row : ℕ
  pub col : ℕ
  pub led : StepsLead Step first last
  pub step : Step last row col
  pub wide : EndsWide last new row col place

-- such steps lead to the basis that is left
pub record StepsLeadToBasis (Step : Content → ℕ → ℕ → Type 0) (first new : Content) : Type 0 where
  pub last : Content
  pub led : StepsLead Step first last
  pub rows : new.rows ≡ last.rows
  pub cols : new.cols ≡ last.cols
  pub basis : (row : ℕ) → new.basic row ≡ last.basic row

-- how such steps come to an end before their aim
abbrev pub StepsEnd : (Content → ℕ → ℕ → Type 0) → Content → Content → PivotEnd → Type 0
StepsEnd Step first new (Wide place) = StepsLeadWide Step first new place
StepsEnd Step first new NoMemory = StepsLeadToBasis Step first new
