-- The steps of a basis in product form (Dantzig and Orchard-Hays 1954).
use Rattle.std.specs.Prelude.{ℕ, ◌<◌}
use Rattle.basis_lu.specs.declared.steps.Pivot.{Pivot}

-- the step's pivot is in a row below this number
abbrev pub IsPivotIn : ℕ → Pivot → Type 0
IsPivotIn rows pivot = pivot.row < rows
