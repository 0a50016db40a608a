-- Directions that turn counter-clockwise from axis to axis (as in the parametric simplex method, Gass and Saaty 1955).
use Rattle.std.specs.Prelude.{◌≡◌, ◌⊎◌, Option, Some, None, ℤ, pos, negsuc, ◌+ℤ◌, ◌-ℤ◌, ◌*ℤ◌, ◌<ℤ◌, ◌≤ℤ◌}
use Rattle.plane_hull.specs.declared.directions.Dir.{Dir}

-- above 0 where (c, d) lies to the left of (a, b), by less than half a turn
abbrev pub cross : ℤ → ℤ → ℤ → ℤ → ℤ
cross a b c d = a *ℤ d -ℤ b *ℤ c

-- above 0 where two directions are less than a right angle apart
abbrev pub dot : ℤ → ℤ → ℤ → ℤ → ℤ
dot a b c d = a *ℤ c +ℤ b *ℤ d

-- the four axes
abbrev pub IsAxis : ℤ → ℤ → Type 0
IsAxis a b = ((a ≡ pos 1) × (b ≡ pos 0)) ⊎ (((a ≡ pos 0) × (b ≡ pos 1)) ⊎ (((a ≡ negsuc 0) × (b ≡ pos 0)) ⊎ ((a ≡ pos 0) × (b ≡ negsuc 0))))

-- (c, d) lies to the left of (a, b), and no axis lies between
pub record TurnsFrom (a b c d : ℤ) : Type 0 where
  pub left : pos 0 <ℤ cross a b c d
  pub no_axis : (x y : ℤ) → IsAxis x y → pos 0 <ℤ cross a b x y → pos 0 ≤ℤ cross c d x y

abbrev pub TurnsTo : Dir → Dir → Type 0
TurnsTo dir next = TurnsFrom dir.a dir.b next.a next.b

-- a bound isn't met before the direction itself: it lies to the left, or straight behind
pub record IsAhead (dir bound : Dir) : Type 0 where
  pub left : pos 0 ≤ℤ cross dir.a dir.b bound.a bound.b
  pub behind : cross dir.a dir.b bound.a bound.b ≡ pos 0 → dot dir.a dir.b bound.a bound.b ≤ℤ pos 0

-- the direction of a column's costs, turned left by a right angle
pub record IsBoundOf (first second : ℤ) (bound : Dir) : Type 0 where
  pub by : ℤ
  pub positive : pos 0 <ℤ by
  pub a : bound.a *ℤ by ≡ pos 0 -ℤ second
  pub b : bound.b *ℤ by ≡ first

-- the direction to which a column's costs lead, or none where it costs nothing
abbrev pub IsBoundOrNone : ℤ → ℤ → Option Dir → Type 0
IsBoundOrNone first second None = (first ≡ pos 0) × (second ≡ pos 0)
IsBoundOrNone first second (Some bound) = IsBoundOf first second bound

-- a direction doesn't lie to the left of another one
abbrev pub IsUpTo : Dir → Dir → Type 0
IsUpTo dir other = pos 0 ≤ℤ cross dir.a dir.b other.a other.b

-- the whole turn is done
abbrev pub IsFullTurn : Dir → Type 0
IsFullTurn dir = (dir.a ≡ pos 1) × (dir.b ≡ pos 0)
