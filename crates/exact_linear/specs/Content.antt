-- What the state of a simplex method stands for.
use Rattle.std.specs.Prelude.{ℕ, ℤ}
use Rattle.exact_linear.specs.Simplex.{IsFeasible}
use Rattle.exact_linear.specs.Tableau.{IsTableau, IsCostRow}

-- a basis, the denominator, the entries, and one row of reduced costs
pub record Content : Type 0 where
  pub basis : ℕ → ℕ
  pub den : ℤ
  pub matrix : ℕ → ℕ → ℤ
  pub row : ℕ → ℤ

-- a feasible tableau of the start's columns, with the row of reduced costs of the start's costs
pub record IsPricedTableau (m n side : ℕ) (columns : ℕ → ℕ → ℤ) (costs : ℕ → ℤ) (content : Content) : Type 0 where
  pub tableau : IsTableau m n columns content.basis content.den content.matrix
  pub priced : IsCostRow m n costs content.basis content.den content.matrix content.row
  pub feasible : IsFeasible m side content.matrix
