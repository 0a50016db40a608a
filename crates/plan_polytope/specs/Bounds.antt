-- How large the coefficients and payoff rows of a program get, and what stays the same while payoff rows grow.
use Rattle.std.specs.Prelude.{◌≡◌, ℕ, ◌≤◌, unsigned_abs}
use Rattle.corr_game.specs.declared.sides.Side.{Side}
use Rattle.lp_form.specs.Program.{LpView, coefficient, payoff_of}

-- each payoff coefficient is within this bound
abbrev pub IsWithin : ℕ → LpView → Type 0
IsWithin bound lp = (side : Side) (k : ℕ) → unsigned_abs (payoff_of side lp k) ≤ bound

-- the rows, the right sides and the number of columns are as before
pub record KeepsRows (before after : LpView) : Type 0 where
  pub columns : after.cols ≡ before.cols
  pub rows : after.rows ≡ before.rows
  pub rights : after.rights ≡ before.rights

-- each coefficient is 1, 0 or -1
abbrev pub AreUnits : LpView → Type 0
AreUnits lp = (r k : ℕ) → unsigned_abs (coefficient lp r k) ≤ 1
