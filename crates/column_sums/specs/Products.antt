-- The product of multipliers of a program's rows with its columns (the theory of linear programs; Gale, Kuhn and
-- Tucker 1951).
use Rattle.std.specs.Prelude.{ℕ, ◌+◌, List, ℤ, pos, ◌*ℤ◌, slice_index_or}
use Rattle.exact_algebra.specs.Sums.{sum_to}
use Rattle.lp_form.specs.Program.{LpView, coefficient}

-- the product of a column with the multipliers from `first` on, over the first `count` rows
abbrev pub product_to : ℕ → List ℤ → ℕ → LpView → ℕ → ℤ
product_to count ys first lp k = sum_to count (λ r. slice_index_or ys (first + r) (pos 0) *ℤ coefficient lp r k)
