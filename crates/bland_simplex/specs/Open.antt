-- Tableaus of a program that may be asked and pivoted.
pub use Rattle.lp_form.specs.Program.{IsProgram}
use Rattle.std.specs.Prelude.{◌≡◌, ℕ, ◌+◌, false, length}
use Rattle.lp_form.specs.Program.{LpView}
use Rattle.int_tableau.specs.Content.{Content, IsTableau}

-- a tableau over so many rows and columns of a program which isn't spent
pub record IsOpen (rows cols : ℕ) (t : Content) : Type 0 where
  pub rules : IsTableau t
  pub fresh : t.spent ≡ false
  pub rows_are : t.rows ≡ rows + 3
  pub cols_are : t.cols ≡ cols + rows + 1

-- an open tableau of this program
abbrev pub IsOpenFor : LpView → Content → Type 0
IsOpenFor lp t = IsOpen (length lp.rows) lp.cols t
