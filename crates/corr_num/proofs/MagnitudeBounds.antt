-- How large sums, differences and products can be: the magnitude of a product is the product of the magnitudes, that of a
-- sum or a difference is at most their sum, and the rest is a comparison with powers of two.
use Rattle.std.proofs.Common.{ℕ, ◌+◌, ◌*◌, ◌^◌, ◌<◌, ◌≤◌, ℤ, ◌+ℤ◌, ◌-ℤ◌, ◌*ℤ◌, unsigned_abs, FitsSigned, arith}
use Rattle.std.specs.Int.{w64}
use Rattle.std.proofs.lemmas.Int.{ints, unsigned_abs-mul}
use Rattle.std.proofs.lemmas.Nat.{mul-le, mul-lt}
use Rattle.corr_num.specs.Narrow.{Narrow}

pub sum_magnitude : (a b : ℤ) → unsigned_abs (a +ℤ b) ≤ unsigned_abs a + unsigned_abs b
sum_magnitude a b = omega (arith, ints)

pub difference_magnitude : (a b : ℤ) → unsigned_abs (a -ℤ b) ≤ unsigned_abs a + unsigned_abs b
difference_magnitude a b = omega (arith, ints)

pub product_magnitude : (a b : ℤ) (m n : ℕ) → unsigned_abs a ≤ m → unsigned_abs b ≤ n → unsigned_abs (a *ℤ b) ≤ m * n
product_magnitude a b m n p q = omega (arith, unsigned_abs-mul a b, mul-le (unsigned_abs a) (unsigned_abs b) m n p q)

-- below 2^124
pub narrow_product : (a b : ℤ) → Narrow a → Narrow b → unsigned_abs (a *ℤ b) < 2 ^ 124
narrow_product a b p q = omega (arith, unsigned_abs-mul a b, mul-lt (unsigned_abs a) (unsigned_abs b) (2 ^ 62) (2 ^ 62) p q)

-- below 2^125
pub narrow_products_difference : (a b c d : ℤ) → Narrow a → Narrow b → Narrow c → Narrow d → unsigned_abs (a *ℤ b -ℤ c *ℤ d) < 2 ^ 125
narrow_products_difference a b c d p q r s = omega (arith, narrow_product a b p q, narrow_product c d r s, difference_magnitude (a *ℤ b) (c *ℤ d))

-- up to 2^124
pub part_product : (a b : ℤ) → unsigned_abs a ≤ 2 ^ 62 → unsigned_abs b ≤ 2 ^ 62 → unsigned_abs (a *ℤ b) ≤ 2 ^ 124
part_product a b p q = omega (arith, product_magnitude a b (2 ^ 62) (2 ^ 62) p q)

-- up to 2^125
pub part_products_sum : (a b c d : ℤ) → unsigned_abs a ≤ 2 ^ 62 → unsigned_abs b ≤ 2 ^ 62 → unsigned_abs c ≤ 2 ^ 62 → unsigned_abs d ≤ 2 ^ 62 → unsigned_abs (a *ℤ b +ℤ c *ℤ d) ≤ 2 ^ 125
part_products_sum a b c d p q r s = omega (arith, part_product a b p q, part_product c d r s, sum_magnitude (a *ℤ b) (c *ℤ d))

pub word_magnitude : (a : ℤ) → FitsSigned w64 a → unsigned_abs a ≤ 2 ^ 63
word_magnitude a f = omega (arith, ints)

-- up to 2^125
pub word_product : (a b : ℤ) → Narrow a → FitsSigned w64 b → unsigned_abs (a *ℤ b) ≤ 2 ^ 125
word_product a b p q = omega (arith, product_magnitude a b (2 ^ 62) (2 ^ 63) (omega arith) (word_magnitude b q))
