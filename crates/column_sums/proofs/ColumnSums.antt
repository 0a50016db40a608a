-- The product of a column with narrow multipliers is at most as many steps as there are rows.
use Rattle.std.proofs.Common.{◌≡◌, ℕ, zero, suc, ◌+◌, ◌*◌, ◌^◌, ◌<◌, ◌≤◌, List, All, length, get_or, ℤ, pos, ◌+ℤ◌, ◌*ℤ◌, unsigned_abs, ap, arith}
use Rattle.std.specs.Prelude.{replicate}
use Rattle.std.proofs.lemmas.Int.{ints}
use Rattle.std.proofs.lemmas.Nat.{mul-le}
use Rattle.exact_algebra.proofs.SumOrder.{sum_to_bounded}
use Rattle.exact_algebra.proofs.Sums.{sum_to-zero, sum_to-add_one, sum_to-same}
use Rattle.corr_num.specs.Narrow.{Narrow}
use Rattle.lp_form.specs.Certificates.{times_column}
use Rattle.lp_form.specs.Program.{LpView, coefficient}
use Rattle.column_sums.specs.Bounds.{AreSteps}
use Rattle.column_sums.specs.Products.{product_to}
use Rattle.column_sums.proofs.ProductSizes.{product_size}

pub product_bound : (n first step k : ℕ) (ys : List ℤ) (lp : LpView) → All Narrow ys → first + n ≤ length ys → AreSteps step lp → unsigned_abs (product_to n ys first lp k) ≤ n * step
product_bound n first step k ys lp narrow long steps =
    sum_to_bounded n step _ (λ r h. omega (arith, product_size (get_or ys (first + r) (pos 0)) (coefficient lp r k) (narrow (first + r) (pos 0) (omega arith)), steps r k))

pub product_none : (first k : ℕ) (ys : List ℤ) (lp : LpView) → product_to 0 ys first lp k ≡ pos 0
product_none first k ys lp = sum_to-zero _

pub product_more : (n first k : ℕ) (ys : List ℤ) (lp : LpView) → product_to (n + 1) ys first lp k ≡ product_to n ys first lp k +ℤ get_or ys (first + n) (pos 0) *ℤ coefficient lp n k
product_more n first k ys lp = sum_to-add_one n _

pub sum_bound : (s o p : ℤ) (m n : ℕ) → s ≡ o +ℤ p → unsigned_abs o ≤ m → unsigned_abs p ≤ n → unsigned_abs s ≤ m + n
sum_bound s o p m n e a b = omega (arith, ints, e, a, b)

pub one_more : (s t o p q r : ℤ) → t ≡ s +ℤ q → s ≡ o +ℤ p → r ≡ p +ℤ q → t ≡ o +ℤ r
one_more s t o p q r a b c = omega (arith, ints, a, b, c)

pub steps_left : (limit row rows step : ℕ) → row < rows → limit + rows * step ≤ 2 ^ 124 → limit + row * step + step ≤ 2 ^ 124
steps_left limit row rows step h l = omega (arith, mul-le (row + 1) step rows step (omega arith) (omega arith), l)

zeros_at : (n k : ℕ) → unsigned_abs (get_or (replicate n (pos 0)) k (pos 0)) ≤ 0
zeros_at zero k = omega arith
zeros_at (suc n) zero = omega arith
zeros_at (suc n) (suc k) = zeros_at n k

pub zero_at : (xs : List ℤ) (n k : ℕ) → xs ≡ replicate n (pos 0) → unsigned_abs (get_or xs k (pos 0)) ≤ 0
zero_at xs n k e = rw e (zeros_at n k)

pub products_of_all : (lp : LpView) (ys : List ℤ) (k : ℕ) → product_to (length lp.rows) ys 0 lp k ≡ times_column lp ys k
products_of_all lp ys k =
    sum_to-same (length lp.rows) _ _ (λ row h. let here : 0 + row ≡ row = omega arith in ap (λ i. get_or ys i (pos 0) *ℤ coefficient lp row k) here)

pub added_to_zero : (s o p whole : ℤ) → unsigned_abs o ≤ 0 → s ≡ o +ℤ p → p ≡ whole → s ≡ whole
added_to_zero s o p whole none added same = omega (arith, ints, none, added, same)
