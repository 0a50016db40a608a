-- The integer tableau of a basis: the rows of a linear system solved for the basic columns, over one common denominator
-- (Edmonds 1967; as integer pivoting in Avis, lrs, 2000). A matrix is a function of row and column.
use Rattle.std.specs.Prelude.{◌≡◌, ℕ, ◌<◌, ◌≤◌, ℤ, pos, ◌+ℤ◌, ◌*ℤ◌, ◌<ℤ◌}
use Rattle.exact_algebra.proofs.Families.{put}
use Rattle.exact_algebra.specs.Sums.{sum_to}
use Rattle.exact_linear.specs.Determinant.{det}

-- the vectors of the basic columns, in the order of their rows
abbrev pub chosen : (ℕ → ℕ → ℤ) → (ℕ → ℕ) → ℕ → ℕ → ℤ
chosen columns basis k = columns (basis k)

-- the rows 0 .. m - 1 of the matrix are the tableau of the basis over the columns 0 .. n - 1 of the start: up to one sign each
-- entry is the determinant of the basic columns with column j in the place of the i-th (Cramer's rule)
pub record IsTableau (m n : ℕ) (columns : ℕ → ℕ → ℤ) (basis : ℕ → ℕ) (den : ℤ) (matrix : ℕ → ℕ → ℤ) : Type 0 where
  pub sign : ℤ
  pub sign_is : sign *ℤ sign ≡ pos 1
  pub positive : pos 0 <ℤ den
  pub within : (k : ℕ) → k < m → basis k < n
  pub whole : den ≡ sign *ℤ det m (chosen columns basis)
  pub entries : (i j : ℕ) → i < m → j < n → matrix i j ≡ sign *ℤ det m (put (chosen columns basis) i (columns j))
  pub spans : (j c : ℕ) → j < n → c < m → sum_to m (λ k. columns (basis k) c *ℤ matrix k j) ≡ den *ℤ columns j c

-- a row of reduced costs: den times the start's costs, less what the basic columns' costs make of each column
pub record IsCostRow (m n : ℕ) (costs : ℕ → ℤ) (basis : ℕ → ℕ) (den : ℤ) (matrix : ℕ → ℕ → ℤ) (row : ℕ → ℤ) : Type 0 where
  pub at : (j : ℕ) → j < n → row j +ℤ sum_to m (λ k. costs (basis k) *ℤ matrix k j) ≡ den *ℤ costs j

-- column j of a matrix as a vector
abbrev pub column : (ℕ → ℕ → ℤ) → ℕ → ℕ → ℤ
column matrix j c = matrix c j

-- the matrix is the tableau of the basis that pivots make of the start: m rows of the system, then cost rows up to row h
pub record IsTableauOf (m h n : ℕ) (start : ℕ → ℕ → ℤ) (basis : ℕ → ℕ) (den : ℤ) (matrix : ℕ → ℕ → ℤ) : Type 0 where
  pub program : IsTableau m n (column start) basis den matrix
  pub costs : (i : ℕ) → m ≤ i → i < h → IsCostRow m n (start i) basis den matrix (matrix i)
