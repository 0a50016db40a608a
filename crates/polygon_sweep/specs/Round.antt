-- How the sides of a polygon come about while a direction turns once round (parametric turning, Gass and Saaty 1955): one at each axis, and
-- two where an edge leads from a corner to the next one.
use Rattle.std.specs.Prelude.{◌≡◌, ℕ, ◌+◌, ◌<◌, Bool, true, false, List, [], ◌∷◌, ◌++◌, Some, slice_get, ◌*ℤ◌}
use Rattle.plane_hull.specs.Belt.{IsAxis, IsRight}
use Rattle.plane_hull.specs.declared.directions.Dir.{Dir}
use Rattle.plane_hull.specs.declared.sides.SideRow.{SideRow}
use Rattle.polygon_sweep.specs.declared.corners.SweptCorner.{SweptCorner}
use Rattle.polygon_sweep.specs.Swept.{IsCoprime}
use Rattle.polygon_sweep.specs.Turning.{TurnsTo}

-- two corners are one point
pub record IsOnePoint (a b : SweptCorner) : Type 0 where
  pub one : a.one *ℤ b.den ≡ b.one *ℤ a.den
  pub two : a.two *ℤ b.den ≡ b.two *ℤ a.den

-- the corners with these numbers are two points
abbrev pub AreApart : List SweptCorner → ℕ → ℕ → Type 0
AreApart corners j k =
    (a : SweptCorner) × (b : SweptCorner) × (slice_get corners j ≡ Some a) × (slice_get corners k ≡ Some b) × (IsOnePoint a b → ⊥)

-- a side in a direction at a corner
abbrev pub IsSideAt : Dir → ℕ → SideRow → Type 0
IsSideAt dir corner side = (side.dir ≡ dir) × (side.corner ≡ corner)

-- a direction turns on, short of the full turn
pub record TurnsShort (dir next : Dir) : Type 0 where
  pub turns : TurnsTo dir next
  pub coprime : IsCoprime next
  pub short : IsRight next → ⊥

-- the sides so far of so many corners, the direction reached, the corner there, and whether that is the first one again: a side more at an
-- axis; two sides where an edge leads on to a new corner, or back to the first
pub data Turned (Apart : ℕ → ℕ → Type 0) : ℕ → List SideRow → Dir → ℕ → Bool → Type 0 where
  begins : (side : SideRow) → IsRight side.dir → side.corner ≡ 0 → Turned Apart 1 (side ∷ []) side.dir 0 false
  passes : (count : ℕ) (sides : List SideRow) (dir next : Dir) (present : ℕ) (back : Bool) →
      Turned Apart count sides dir present back → TurnsShort dir next → (IsAxis next → ⊥) → Turned Apart count sides next present back
  meets_axis : (count : ℕ) (sides : List SideRow) (dir next : Dir) (present : ℕ) (back : Bool) (side : SideRow) →
      Turned Apart count sides dir present back → TurnsShort dir next → IsAxis next → IsSideAt next present side →
      Turned Apart count (sides ++ side ∷ []) next present back
  leads_on : (count : ℕ) (sides : List SideRow) (dir next : Dir) (present : ℕ) (here there : SideRow) →
      Turned Apart count sides dir present false → TurnsShort dir next → present + 1 ≡ count → Apart present count →
      IsSideAt next present here → IsSideAt next count there →
      Turned Apart (count + 1) (sides ++ here ∷ there ∷ []) next count false
  leads_back : (count : ℕ) (sides : List SideRow) (dir next : Dir) (present : ℕ) (here there : SideRow) →
      Turned Apart count sides dir present false → TurnsShort dir next → present + 1 ≡ count → 0 < present → Apart present 0 →
      IsSideAt next present here → IsSideAt next 0 there →
      Turned Apart count (sides ++ here ∷ there ∷ []) next 0 true

-- the sides of so many corners once the turn is full: the sweep is back at the first corner, or was never elsewhere; or an edge leads there
-- from the last one in the direction (1, 0)
pub data GoneRound (Apart : ℕ → ℕ → Type 0) : ℕ → List SideRow → Type 0 where
  at_first : (count : ℕ) (sides : List SideRow) (dir last : Dir) (back : Bool) →
      Turned Apart count sides dir 0 back → TurnsTo dir last → IsRight last → (back ≡ false → count ≡ 1) → GoneRound Apart count sides
  at_last : (count : ℕ) (sides : List SideRow) (dir : Dir) (present : ℕ) (side : SideRow) →
      Turned Apart count sides dir present false → TurnsTo dir side.dir → IsRight side.dir → present + 1 ≡ count → 0 < present →
      Apart present 0 → side.corner ≡ present → GoneRound Apart count (sides ++ side ∷ [])
