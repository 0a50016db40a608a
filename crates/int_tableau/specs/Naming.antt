-- The names of rows over a list of basic columns.
use Rattle.std.specs.Prelude.{◌≡◌, ℕ, ◌+◌, ◌<◌, List, length, slice_index}
use Rattle.lp_form.specs.declared.places.RowName.{RowName}
use Rattle.lp_form.specs.declared.places.RowName.TheVariants.{Basic, First, Second, Phase}

-- a program row is named by its basic column, and the three rows behind have names of their own
abbrev pub NamesRow : List ℕ → ℕ → RowName → Type 0
NamesRow basis row (Basic col) = (row < length basis) × (slice_index basis row ≡ col)
NamesRow basis row First = row ≡ length basis
NamesRow basis row Second = row ≡ length basis + 1
NamesRow basis row Phase = row ≡ length basis + 2
