-- The correlation rows of two players' sequences (von Stengel and Forges 2008), by the set and the sequence they are for.
use Rattle.std.specs.Prelude.{◌≡◌, ◌≢◌, ◌<◌, ℕ, pos, negsuc, ◌+◌, List, Option, Some, length, slice_get}
use Rattle.corr_game.specs.declared.sides.Side.{Side}
use Rattle.corr_game.specs.declared.sides.Side.TheVariants.{One, Two}
use Rattle.corr_game.specs.Game.{GameView, sets_of}
use Rattle.sequences.specs.Number.{Ends, IsOwn, count_of, last_of, side_of}
use Rattle.lp_form.specs.Program.{LpView, coefficient}
use Rattle.connected_pairs.specs.Connected.{PairsView, IsTouched, index_of, other}
use Rattle.plan_polytope.specs.declared.rows.Row.{Row}

-- a row is for one of a player's sets and one of the other's sequences
abbrev pub IsRowOf : GameView → PairsView → Row → Type 0
IsRowOf g p row = (row.set.0 < length (sets_of row.side g)) × (row.beside < count_of (side_of (other row.side) p.seqs)) × IsTouched p (other row.side) row.set.0 (last_of (side_of (other row.side) p.seqs) row.beside)

-- the column of a pair of sequences, that of this player first, if the pair is relevant
abbrev pub column_of : PairsView → Side → ℕ → ℕ → Option ℕ
column_of p One own beside = index_of p own beside
column_of p Two own beside = index_of p beside own

-- a column is that of a move at the row's set, beside the row's sequence
abbrev pub IsOfMove : PairsView → Row → ℕ → Type 0
IsOfMove p row k = (action : ℕ) × (seq : ℕ) × Ends (side_of row.side p.seqs).places (row.set, action) seq × (column_of p row.side seq row.beside ≡ Some k)

-- a column is that of the own sequence of the row's set, beside the row's sequence
abbrev pub IsOfOwn : PairsView → Row → ℕ → Type 0
IsOfOwn p row k = (own : ℕ) × IsOwn (side_of row.side p.seqs) row.set.0 own × (column_of p row.side own row.beside ≡ Some k)

-- a set passes on what its own sequence has: 1 at each of its moves, -1 at its own sequence and 0 elsewhere
pub record IsCorrelationRow (p : PairsView) (row : Row) (lp : LpView) (r : ℕ) : Type 0 where
  pub moves : (k : ℕ) → IsOfMove p row k → coefficient lp r k ≡ pos 1
  pub own : (k : ℕ) → IsOfOwn p row k → coefficient lp r k ≡ negsuc 0
  pub elsewhere : (k : ℕ) → (IsOfMove p row k → ⊥) → (IsOfOwn p row k → ⊥) → coefficient lp r k ≡ pos 0

-- the pair of empty sequences has all of the weight: 1 there and 0 elsewhere
pub record IsTotalRow (p : PairsView) (lp : LpView) (r : ℕ) : Type 0 where
  pub empty : (k : ℕ) → index_of p 0 0 ≡ Some k → coefficient lp r k ≡ pos 1
  pub elsewhere : (k : ℕ) → index_of p 0 0 ≢ Some k → coefficient lp r k ≡ pos 0

-- these rows stand in this order behind the first row of a program
abbrev pub AreFilled : PairsView → List Row → LpView → Type 0
AreFilled p rows lp = (r : ℕ) (row : Row) → slice_get rows r ≡ Some row → IsCorrelationRow p row lp (r + 1)
