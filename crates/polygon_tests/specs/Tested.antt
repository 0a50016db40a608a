-- What is asked of a program before a polygon of it is tested (linear programs as in Dantzig 1963).
use Rattle.std.specs.Prelude.{◌≡◌, length}
use Rattle.lp_form.specs.Program.{LpView, IsProgram}
use Rattle.lp_form.specs.Small.{IsSmall}

-- a small program of two rows over four columns, with the right sides 1 and 0
pub record IsTested (lp : LpView) : Type 0 where
  pub program : IsProgram lp
  pub small : IsSmall lp
  pub rows : length lp.rows ≡ 2
  pub cols : lp.cols ≡ 4
