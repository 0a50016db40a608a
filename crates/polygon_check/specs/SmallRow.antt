-- Rows of small coefficients (the usual compressed form).
use Rattle.std.specs.Prelude.{ℕ, ◌^◌, ◌<◌, List, unsigned_abs}
use Rattle.lp_form.specs.declared.entries.Entry.{Entry}
use Rattle.lp_form.specs.Row.{value_at}

-- each coefficient of a row is below 2^51 in magnitude
abbrev pub IsSmallRow : List Entry → Type 0
IsSmallRow entries = (col : ℕ) → unsigned_abs (value_at entries col) < 2 ^ 51
