-- The columns that lower what is left to do in the first phase (Dantzig 1963).
use Rattle.std.specs.Prelude.{ℕ, ◌+◌, pos, ◌<ℤ◌}
use Rattle.int_tableau.specs.Content.{Content}

-- the column is negative in Phase, which stands two rows behind the first behind so many program rows
abbrev pub Lowers : Content → ℕ → ℕ → Type 0
Lowers t rows col = t.entry (rows + 2) col <ℤ pos 0
