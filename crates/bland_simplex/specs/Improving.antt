-- The columns that improve a tableau for a direction and, where the direction is indifferent, for its left turn.
use Rattle.std.specs.Prelude.{◌≡◌, ◌⊎◌, ℕ, ◌+◌, ◌<◌, ℤ, pos, ◌+ℤ◌, ◌-ℤ◌, ◌*ℤ◌, ◌<ℤ◌}
use Rattle.plane_hull.specs.declared.directions.Dir.{Dir}
use Rattle.int_tableau.specs.Content.{Content}

-- the reduced cost of a column in the direction, where the payoff rows stand behind so many rows of the program
abbrev pub reduced : Content → ℕ → Dir → ℕ → ℤ
reduced t rows dir col = dir.a *ℤ t.entry rows col +ℤ dir.b *ℤ t.entry (rows + 1) col

-- the same in the direction turned left by a right angle
abbrev pub reduced_left : Content → ℕ → Dir → ℕ → ℤ
reduced_left t rows dir col = dir.a *ℤ t.entry (rows + 1) col -ℤ dir.b *ℤ t.entry rows col

-- a column improves
abbrev pub Improves : Content → ℕ → Dir → ℕ → Type 0
Improves t rows dir col = (reduced t rows dir col <ℤ pos 0) ⊎ ((reduced t rows dir col ≡ pos 0) × (reduced_left t rows dir col <ℤ pos 0))

-- no column of the program improves
abbrev pub IsOptimal : Content → ℕ → ℕ → Dir → Type 0
IsOptimal t rows cols dir = (col : ℕ) → col < cols → Improves t rows dir col → ⊥
