-- Tableaus on which the simplex method goes on: those that pivots lead to from a program's own start (Dantzig 1963).
use Rattle.std.specs.Prelude.{◌≡◌, ℕ, ◌+◌, ◌<◌, ◌≤◌, ℤ, pos, length, cond, nat_lt}
use Rattle.exact_algebra.specs.Sums.{sum_to}
use Rattle.exact_linear.specs.Simplex.{IsFeasible, IsInert}
use Rattle.lp_form.specs.Program.{LpView}
use Rattle.int_tableau.specs.Content.{Content, right_side}
use Rattle.int_tableau.specs.Reached.{IsReachedFrom}
use Rattle.int_tableau.specs.Start.{start_entry}
use Rattle.bland_simplex.specs.Open.{IsOpenFor}

-- an open tableau of a basis over this program's start, with right sides of 0 or more
pub record IsUnderWay (lp : LpView) (t : Content) : Type 0 where
  pub «open» : IsOpenFor lp t
  pub reached : IsReachedFrom (start_entry lp) t
  pub feasible : IsFeasible (length lp.rows) (lp.cols + length lp.rows) t.entry

-- the sum of the right sides of the rows with a basic artificial column
abbrev pub artificial_sum : LpView → Content → ℤ
artificial_sum lp t = sum_to (length lp.rows) (λ row. cond (nat_lt (t.basic row) lp.cols) (pos 0) (right_side t row))

-- the same at the end of the first phase: Phase's right side is 0
pub record IsLowered (lp : LpView) (t : Content) : Type 0 where
  pub way : IsUnderWay lp t
  pub done : t.entry (length lp.rows + 2) (lp.cols + length lp.rows) ≡ pos 0

-- a tableau of a basis over this program's start that shows a solution: feasible, and a row with a basic artificial column is 0 in
-- the program's columns and in the right side
pub record IsReady (lp : LpView) (t : Content) : Type 0 where
  pub «open» : IsOpenFor lp t
  pub reached : IsReachedFrom (start_entry lp) t
  pub feasible : IsFeasible (length lp.rows) (lp.cols + length lp.rows) t.entry
  pub inert : (row : ℕ) → row < length lp.rows → lp.cols ≤ t.basic row → IsInert lp.cols (lp.cols + length lp.rows) t.entry row
