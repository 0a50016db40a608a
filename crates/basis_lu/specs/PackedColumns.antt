-- Columns of cells, packed one after another (Gustavson 1972).
use Rattle.std.specs.Prelude.{ℕ, ◌<◌, ◌≤◌}
use Rattle.basis_lu.specs.declared.matrices.Cell.{Cell}
use Rattle.basis_lu.specs.declared.matrices.Span.{Span}

-- the cell is in a row below this number
abbrev pub IsInRows : ℕ → Cell → Type 0
IsInRows rows cell = cell.row < rows

-- the span is a range of this many cells
abbrev pub IsRangeOf : ℕ → Span → Type 0
IsRangeOf count span = (span.start ≤ span.end) × (span.end ≤ count)
