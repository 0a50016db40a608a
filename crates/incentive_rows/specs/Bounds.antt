-- How large the coefficients of a program get, and what stays the same while they grow.
use Rattle.std.specs.Prelude.{◌≡◌, ℕ, ◌+◌, ◌≤◌, length, unsigned_abs}
use Rattle.lp_form.specs.Program.{LpView, coefficient}

-- each coefficient is within this bound
abbrev pub IsWithin : ℕ → LpView → Type 0
IsWithin bound lp = (r k : ℕ) → unsigned_abs (coefficient lp r k) ≤ bound

-- the coefficients alone change, each by no more than this
pub record Grows (by : ℕ) (before after : LpView) : Type 0 where
  pub rows_alone : after ≡ record before { rows = after.rows }
  pub as_many : length after.rows ≡ length before.rows
  pub within : (bound : ℕ) → IsWithin bound before → IsWithin (bound + by) after
