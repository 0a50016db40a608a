-- What it is to put a number into a row of a program, at a column that may be missing.
use Rattle.std.specs.Prelude.{◌≡◌, ◌≢◌, ◌⊎◌, ℕ, ℤ, Option, Some}
use Rattle.lp_form.specs.Program.{LpView, coefficient}

-- a row has this value at the column, if there is one, and each other coefficient is as before
pub record Puts (found : Option ℕ) (row : ℕ) (value : ℤ) (before after : LpView) : Type 0 where
  pub there : (k : ℕ) → found ≡ Some k → coefficient after row k ≡ value
  pub elsewhere : (r k : ℕ) → (r ≢ row) ⊎ (found ≢ Some k) → coefficient after r k ≡ coefficient before r k
