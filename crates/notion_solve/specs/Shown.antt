-- What a block shows of a program (von Stengel and Forges 2008; the duality of linear programs, Dantzig 1963): corners that solutions
-- reach, sides that none passes, that there is no solution, or a basis at which the method is too wide.
use Rattle.std.specs.Prelude.{◌≡◌, ℕ, ◌<◌, ◌≤◌, ℤ, List, length, Some, slice_get, All}
use Rattle.corr_game.specs.declared.notions.Notion.{Notion}
use Rattle.corr_game.specs.declared.sides.Side.{Side}
use Rattle.corr_game.specs.declared.sides.Side.TheVariants.{One, Two}
use Rattle.corr_game.specs.Game.{GameView}
use Rattle.corr_num.specs.Narrow.{Narrow}
use Rattle.connected_pairs.specs.Connected.{PairsView}
use Rattle.plan_decompose.specs.Entry.{IsEntry, SumsTo}
use Rattle.lp_form.specs.Certificates.{ShowEmpty}
use Rattle.lp_form.specs.Program.{LpView}
use Rattle.lp_form.specs.Solutions.{IsSolution, paid}
use Rattle.bland_simplex.specs.Reachable.{IsWideBasis}
use Rattle.bland_simplex.specs.Multipliers.{HasNarrowColumns}
use Rattle.plane_hull.specs.declared.sides.SideRow.{SideRow}
use Rattle.polygon_sweep.specs.declared.corners.SweptCorner.{SweptCorner}
use Rattle.polygon_sweep.specs.Swept.{LeavesNarrow}
use Rattle.report_form.specs.Certified.{IsCertified, IsPointIn}
use Rattle.report_form.specs.declared.reports.Block.{Block}
use Rattle.report_form.specs.declared.reports.Block.TheVariants.{Found, Empty, TooWide}
use Rattle.report_form.specs.declared.reports.Corner.{Corner}
use Rattle.plan_polytope.specs.NotionProgram.{IsProgramOf}

-- each corner has the point of the swept corner with its number
abbrev pub ArePointsOf : GameView → List SweptCorner → List Corner → Type 0
ArePointsOf g swept corners = (k : ℕ) (found : SweptCorner) → slice_get swept k ≡ Some found
    → (corner : Corner) × (slice_get corners k ≡ Some corner) × IsPointIn g corner.point found.one found.two found.den

-- the corner's pairs are of reduced plans with weights of 1 or more, and no more than there are relevant pairs; a solution of the
-- program with the corner's total pays narrow sums and so the corner's point, and at each relevant pair the weights sum to its number
pub record IsReached (g : GameView) (p : PairsView) (lp : LpView) (corner : Corner) : Type 0 where
  pub entries : All (IsEntry g p.seqs) corner.pairs
  pub few : length corner.pairs ≤ length p.pairs
  pub x : ℕ → ℤ
  pub solution : IsSolution lp corner.total x
  pub narrow : (side : Side) → Narrow (paid lp side x)
  pub point : IsPointIn g corner.point (paid lp One x) (paid lp Two x) corner.total
  pub sums : (k : ℕ) (pair : ℕ × ℕ) → slice_get p.pairs k ≡ Some pair → SumsTo p.seqs pair corner.pairs (x k)

-- a certified side, of whose columns the multipliers leave narrow numbers
pub record IsShownSide (g : GameView) (lp : LpView) (corners : List Corner) (side : SideRow) : Type 0 where
  pub certified : IsCertified g lp corners side
  pub narrow : (col : ℕ) → col < lp.cols → LeavesNarrow lp side col

-- what a block says of a program
abbrev pub IsShown : GameView → PairsView → LpView → Block → Type 0
IsShown g p lp (Found corners sides) = All (IsReached g p lp) corners × All (IsShownSide g lp corners) sides
IsShown g p lp (Empty multipliers) = ShowEmpty lp multipliers × HasNarrowColumns lp multipliers
IsShown g p lp (TooWide basis place) = IsWideBasis lp basis place

-- the block is shown of the notion's program
abbrev pub IsShownFor : GameView → PairsView → Notion → Block → Type 0
IsShownFor g p notion block = (lp : LpView) × IsProgramOf g p notion lp × IsShown g p lp block
