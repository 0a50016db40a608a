-- The columns marked are the basic ones of the rows passed.
use Rattle.std.proofs.Common.{◌≡◌, ℕ, ◌<◌, Some, true, length, slice_get}
use Rattle.notion_solve.proofs.wide.basic_columns.Given as goal

abbrev pub invariant-loop-row : goal.invariant-loop-row
invariant-loop-row g l =
    (length l.basic.items ≡ (g.T.Tableau.content l.table).cols)
    × ((row : ℕ) → row < l.row → slice_get l.basic.items ((g.T.Tableau.content l.table).basic row) ≡ Some true)
    × ((col : ℕ) → slice_get l.basic.items col ≡ Some true → (row : ℕ) × (row < l.row) × ((g.T.Tableau.content l.table).basic row ≡ col))
