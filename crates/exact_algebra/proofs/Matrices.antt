-- A matrix ℕ → ℕ → ℤ between a row and a column: its sum by rows is its sum by columns. A double sum taken the other way.
use Rattle.std.proofs.Common.{◌≡◌, ℕ, ℤ, ◌*ℤ◌, sym, ◌∙◌}
use Rattle.exact_algebra.proofs.RingLaws.{*ℤ_assoc}
use Rattle.exact_algebra.proofs.Sums.{sum_to-same, sum_to-exchange, sum_to-scale, sum_to-scale_right}
use Rattle.exact_algebra.specs.Sums.{sum_to}

-- (y A) x is y (A x), for y of m and x of n numbers.
pub row_matrix_column : (m n : ℕ) (y : ℕ → ℤ) (matrix : ℕ → ℕ → ℤ) (x : ℕ → ℤ) → sum_to n (λ j. sum_to m (λ i. y i *ℤ matrix i j) *ℤ x j) ≡ sum_to m (λ i. y i *ℤ sum_to n (λ j. matrix i j *ℤ x j))
row_matrix_column m n y matrix x =
    sum_to-same n _ _ (λ j h. sym (sum_to-scale_right m (x j) (λ i. y i *ℤ matrix i j)))
    ∙ (sum_to-exchange n m (λ j i. y i *ℤ matrix i j *ℤ x j)
    ∙ sum_to-same m _ _ (λ i h. sum_to-same n _ _ (λ j l. *ℤ_assoc (y i) (matrix i j) (x j)) ∙ sum_to-scale n (y i) (λ j. matrix i j *ℤ x j)))

-- A product of two sums is the double sum of the products.
pub product_of_sums : (m n : ℕ) (f g : ℕ → ℤ) → sum_to m f *ℤ sum_to n g ≡ sum_to m (λ i. sum_to n (λ j. f i *ℤ g j))
product_of_sums m n f g = sym (sum_to-scale_right m (sum_to n g) f) ∙ sum_to-same m _ _ (λ i h. sym (sum_to-scale n (f i) g))
