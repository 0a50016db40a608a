-- The simplex method over an integer tableau (Dantzig 1963): feasible tableaus, the ratio rule, solutions of a program.
use Rattle.std.specs.Prelude.{◌≡◌, ℕ, ◌<◌, cond, ℤ, pos, ◌*ℤ◌, ◌≤ℤ◌, ◌<ℤ◌}
use lib.Dec.{eqb}
use Rattle.exact_algebra.specs.Sums.{sum_to}

-- the right sides of m rows, in column `side`, are 0 or more
pub record IsFeasible (m side : ℕ) (matrix : ℕ → ℕ → ℤ) : Type 0 where
  pub at : (i : ℕ) → i < m → pos 0 ≤ℤ matrix i side

-- row r has a least ratio of right side to entry, among the rows with a positive entry in column s
pub record IsLeastRatio (m side : ℕ) (matrix : ℕ → ℕ → ℤ) (r s : ℕ) : Type 0 where
  pub within : r < m
  pub positive : pos 0 <ℤ matrix r s
  pub least : (i : ℕ) → i < m → pos 0 <ℤ matrix i s → (matrix r side *ℤ matrix i s) ≤ℤ (matrix i side *ℤ matrix r s)

-- x gives each of q columns a number of 0 or more, so that they make `total` times the right sides, in the coordinates below m
pub record IsSolution (m q side : ℕ) (columns : ℕ → ℕ → ℤ) (total : ℤ) (x : ℕ → ℤ) : Type 0 where
  pub positive : (j : ℕ) → j < q → pos 0 ≤ℤ x j
  pub makes : (c : ℕ) → c < m → sum_to q (λ j. columns j c *ℤ x j) ≡ total *ℤ columns side c

-- what a solution of basic columns alone gives column j: the value of its row, or 0 where it isn't basic; with the right sides as
-- values it is the basic solution, over the denominator
unfoldable pub basic_value : ℕ → (ℕ → ℕ) → (ℕ → ℤ) → ℕ → ℤ
basic_value m basis values j = sum_to m (λ k. cond (eqb (basis k) j) (values k) (pos 0))

-- the row's right side and its entries in the columns below q are 0
pub record IsInert (q side : ℕ) (matrix : ℕ → ℕ → ℤ) (i : ℕ) : Type 0 where
  pub level : matrix i side ≡ pos 0
  pub empty : (j : ℕ) → j < q → matrix i j ≡ pos 0
