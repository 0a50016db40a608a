-- The tableaus to which the simplex method may lead in its two phases and while its direction turns (Dantzig 1963; parametric
-- turning, Gass and Saaty 1955), and where they are too wide.
use Rattle.std.specs.Prelude.{◌≡◌, ◌⊎◌, ℕ, ◌<◌, List, Some, slice_get, length}
use Rattle.std.specs.declared.cmp.Ordering.TheVariants.{Less}
use Rattle.corr_num.specs.Narrow.{Wide}
use Rattle.lp_form.specs.Program.{LpView}
use Rattle.lp_form.specs.declared.places.Place.{Place}
use Rattle.plane_hull.specs.Angle.{angle_cmp}
use Rattle.plane_hull.specs.Belt.{IsRight}
use Rattle.plane_hull.specs.declared.directions.Dir.{Dir}
use Rattle.int_tableau.specs.declared.ends.PivotEnd.{PivotEnd}
use Rattle.int_tableau.specs.declared.ends.PivotEnd.TheVariants.{Wide as WideAt, NoMemory}
use Rattle.int_tableau.specs.Content.{Content, IsNamed, IsProgramRow, IsTableau}
use Rattle.int_tableau.specs.Pivot.{IsPivoted}
use Rattle.int_tableau.specs.Start.{IsStart}
use Rattle.bland_simplex.specs.Improving.{IsOptimal}
use Rattle.bland_simplex.specs.Ready.{IsReady}
use Rattle.bland_simplex.specs.Steps.{IsFirstStep, IsTurning}

-- where the method goes: in a direction of the first turn, or in (1, 0) again after the full turn
pub data Heading : Type 0 where
  turning : Dir → Heading
  round : Heading

-- the direction of a heading
abbrev pub HeadsIn : Heading → Dir → Type 0
HeadsIn (turning own) dir = own ≡ dir
HeadsIn round dir = IsRight dir

-- to a direction of greater angle, or from any of the first turn to the full turn, behind which there is none
abbrev pub TurnsOn : Heading → Heading → Type 0
TurnsOn (turning dir) (turning next) = angle_cmp dir next ≡ Less
TurnsOn (turning dir) round = Unit {0}
TurnsOn round next = ⊥

-- the program's start, heading (1, 0); by a pivot that is a step of the first phase or of turning; the heading turns on at a tableau
-- that is optimal for its direction
pub data MayReach (lp : LpView) : Heading → Content → Type 0 where
  starts : (dir : Dir) (t : Content) → IsRight dir → IsStart lp t → IsTableau t → MayReach lp (turning dir) t
  steps : (heading : Heading) (dir : Dir) (t next : Content) (row col : ℕ) → MayReach lp heading t → HeadsIn heading dir →
      IsFirstStep lp t row col ⊎ IsTurning lp dir t row col → IsPivoted t next row col → MayReach lp heading next
  turns : (heading next : Heading) (dir : Dir) (t : Content) → MayReach lp heading t → HeadsIn heading dir → IsReady lp t →
      IsOptimal t (length lp.rows) lp.cols dir → TurnsOn heading next → MayReach lp next t

-- the columns in ascending order, which are exactly the basic columns of the tableau's program rows
pub record ListsBasis (columns : List ℕ) (t : Content) : Type 0 where
  pub ascending : (j k one other : ℕ) → j < k → slice_get columns j ≡ Some one → slice_get columns k ≡ Some other → one < other
  pub basic : (k col : ℕ) → slice_get columns k ≡ Some col → (row : ℕ) × IsProgramRow t row × (t.basic row ≡ col)
  pub all : (row : ℕ) → IsProgramRow t row → (k : ℕ) × (slice_get columns k ≡ Some (t.basic row))

-- the entry at the named place is wide
pub record IsWideAt (t : Content) (place : Place) : Type 0 where
  pub row : ℕ
  pub named : IsNamed t row place.row
  pub in_columns : place.col < t.cols
  pub wide : Wide (t.entry row place.col)

-- a tableau to which the method may lead has exactly these basic columns, and is wide at the place
pub record IsWideBasis (lp : LpView) (columns : List ℕ) (place : Place) : Type 0 where
  pub heading : Heading
  pub tableau : Content
  pub may : MayReach lp heading tableau
  pub lists : ListsBasis columns tableau
  pub wide : IsWideAt tableau place

-- no tableau to which the method may lead has a wide entry
abbrev pub NeverWide : LpView → Type 0
NeverWide lp =
    (heading : Heading) (t : Content) (row col : ℕ) → MayReach lp heading t → row < t.rows → col < t.cols
    → Wide (t.entry row col) → ⊥

-- the method may lead to the tableau before it turns
abbrev pub MayBeginAt : LpView → Content → Type 0
MayBeginAt lp t = (dir : Dir) → IsRight dir → MayReach lp (turning dir) t

-- what is left has size and basis of a tableau to which the method may lead, which is wide at the place
pub record LeavesWide (lp : LpView) (left : Content) (place : Place) : Type 0 where
  pub heading : Heading
  pub tableau : Content
  pub may : MayReach lp heading tableau
  pub wide : IsWideAt tableau place
  pub rows : left.rows ≡ tableau.rows
  pub basis : (row : ℕ) → IsProgramRow left row → left.basic row ≡ tableau.basic row

-- what is left where pivots come to an end before their aim
abbrev pub IsLeftWide : LpView → Content → PivotEnd → Type 0
IsLeftWide lp left (WideAt place) = LeavesWide lp left place
IsLeftWide lp left NoMemory = Unit {0}
