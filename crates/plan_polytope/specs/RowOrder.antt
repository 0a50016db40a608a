-- The order of the correlation rows: by player, by set, and then by the sequence that a row stands beside.
use Rattle.std.specs.Prelude.{◌≡◌, ◌⊎◌, ◌<◌, ◌++◌, ◌∷◌, [], ℕ, List, Some, slice_get}
use Rattle.corr_game.specs.declared.sides.Side.{Side}
use Rattle.corr_game.specs.declared.sides.Side.TheVariants.{One, Two}
use Rattle.corr_game.specs.Game.{GameView}
use Rattle.sequences.specs.Number.{last_of, side_of}
use Rattle.connected_pairs.specs.Connected.{PairsView, IsTouched, other}
use Rattle.plan_polytope.specs.declared.rows.Row.{Row}
use Rattle.plan_polytope.specs.CorrelationRow.{IsRowOf}

-- by set and then by sequence
abbrev pub IsLower : Row → ℕ → ℕ → Type 0
IsLower row set beside = (row.set.0 < set) ⊎ ((row.set.0 ≡ set) × (row.beside < beside))

-- by player first
abbrev pub IsBefore : Row → Side → ℕ → ℕ → Type 0
IsBefore row One set beside = (row.side ≡ One) × IsLower row set beside
IsBefore row Two set beside = (row.side ≡ One) ⊎ ((row.side ≡ Two) × IsLower row set beside)

-- one row comes before another
abbrev pub ComesBefore : Row → Row → Type 0
ComesBefore a b = IsBefore a b.side b.set.0 b.beside

-- exactly the rows that come before a player, set and sequence, in their order
pub record AreRowsBelow (g : GameView) (p : PairsView) (side : Side) (set beside : ℕ) (rows : List Row) : Type 0 where
  pub each : (k : ℕ) (row : Row) → slice_get rows k ≡ Some row → IsRowOf g p row × IsBefore row side set beside
  pub all : (row : Row) → IsRowOf g p row → IsBefore row side set beside → (k : ℕ) × (slice_get rows k ≡ Some row)
  pub in_order : (j k : ℕ) (a b : Row) → j < k → slice_get rows j ≡ Some a → slice_get rows k ≡ Some b → ComesBefore a b

-- each row once, in their order
pub record AreAllRows (g : GameView) (p : PairsView) (rows : List Row) : Type 0 where
  pub each : (k : ℕ) (row : Row) → slice_get rows k ≡ Some row → IsRowOf g p row
  pub all : (row : Row) → IsRowOf g p row → (k : ℕ) × (slice_get rows k ≡ Some row)
  pub in_order : (j k : ℕ) (a b : Row) → j < k → slice_get rows j ≡ Some a → slice_get rows k ≡ Some b → ComesBefore a b

-- a row's sequence is empty, or its last set is connected to the row's set
abbrev pub IsWanted : PairsView → Row → Type 0
IsWanted p row = IsTouched p (other row.side) row.set.0 (last_of (side_of (other row.side) p.seqs) row.beside)

-- a row that is wanted is put behind the others
abbrev pub AddsWanted : PairsView → Row → List Row → List Row → Type 0
AddsWanted p row old new = (IsWanted p row × (new ≡ old ++ row ∷ [])) ⊎ ((IsWanted p row → ⊥) × (new ≡ old))
