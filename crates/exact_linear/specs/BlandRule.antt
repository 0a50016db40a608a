-- Bland's rule for a fixed order of the columns (Bland, New finite pivoting rules for the simplex method, 1977).
use Rattle.std.specs.Prelude.{◌≡◌, ℕ, ◌<◌, ◌≤◌, ℤ, pos, ◌*ℤ◌, ◌≤ℤ◌, ◌<ℤ◌}
use Rattle.exact_linear.specs.Simplex.{IsLeastRatio}

-- of the columns below q the first one with a negative reduced cost enters, and of the rows of least ratio the one whose basic
-- column comes first leaves; a column comes before another where its rank is lower
pub record IsBlandStep (m q side : ℕ) (rank : ℕ → ℕ) (basis : ℕ → ℕ) (matrix : ℕ → ℕ → ℤ) (row : ℕ → ℤ) (r s : ℕ) : Type 0 where
  pub offered : s < q
  pub improves : row s <ℤ pos 0
  pub first_column : (j : ℕ) → j < q → rank j < rank s → pos 0 ≤ℤ row j
  pub ratio : IsLeastRatio m side matrix r s
  pub first_row : (i : ℕ) → i < m → pos 0 <ℤ matrix i s → matrix i side *ℤ matrix r s ≡ matrix r side *ℤ matrix i s → rank (basis r) ≤ rank (basis i)
