-- What signed code of 128 bits prints for a value, a product, a sum: the number goes to its bits and back. Each fact says that
-- it fits, or that it comes back as it was; `.._passed` says it of what a leaf of this crate answered, where it is passed on.
use Rattle.std.proofs.Common.{◌≡◌, ◌^◌, ◌<◌, ◌≤◌, ℤ, ◌+ℤ◌, ◌-ℤ◌, ◌*ℤ◌, unsigned_abs, FitsSigned, to_z, of_z, arith}
use Rattle.std.specs.Int.{w64, w128}
use Rattle.std.proofs.lemmas.Int.{fits_signed_from_abs, to_z-of_z}
use Rattle.corr_num.specs.Narrow.{Narrow}
use Rattle.corr_num.proofs.MagnitudeBounds.{narrow_product, narrow_products_difference, part_product, part_products_sum, word_magnitude, word_product}

-- ---- any number below 2^127

pub fits : (z : ℤ) → unsigned_abs z < 2 ^ 127 → FitsSigned w128 z
fits z h = fits_signed_from_abs w128 z h

pub returned : (z : ℤ) → unsigned_abs z < 2 ^ 127 → to_z w128 (of_z w128 z) ≡ z
returned z h = to_z-of_z w128 z (fits z h)

-- ---- a narrow number

pub narrow_fits : (a : ℤ) → Narrow a → FitsSigned w128 a
narrow_fits a p = fits a (omega arith)

pub narrow_returned : (a : ℤ) → Narrow a → to_z w128 (of_z w128 a) ≡ a
narrow_returned a p = returned a (omega arith)

-- ---- a product of two narrow numbers

pub product_fits : (a b : ℤ) → Narrow a → Narrow b → FitsSigned w128 (a *ℤ b)
product_fits a b p q = fits (a *ℤ b) (omega (arith, narrow_product a b p q))

pub product_returned : (a b : ℤ) → Narrow a → Narrow b → to_z w128 (of_z w128 (a *ℤ b)) ≡ a *ℤ b
product_returned a b p q = returned (a *ℤ b) (omega (arith, narrow_product a b p q))

pub product_passed : (r a b : ℤ) → Narrow a → Narrow b → r ≡ to_z w128 (of_z w128 a) *ℤ to_z w128 (of_z w128 b) → to_z w128 (of_z w128 r) ≡ a *ℤ b
product_passed r a b p q e = rw (e, narrow_returned a p, narrow_returned b q) (product_returned a b p q)

-- ---- a number of 64 bits, as it is and as `i128::from` answers it

pub word_returned : (b : ℤ) → FitsSigned w64 b → to_z w128 (of_z w128 b) ≡ b
word_returned b q = returned b (omega (arith, word_magnitude b q))

pub word_passed : (w b : ℤ) → FitsSigned w64 b → w ≡ to_z w64 (of_z w64 b) → to_z w128 (of_z w128 w) ≡ b
word_passed w b q e = rw (e, to_z-of_z w64 b q) (word_returned b q)

-- ---- a product of a narrow number and a number of 64 bits

pub word_product_fits : (a b : ℤ) → Narrow a → FitsSigned w64 b → FitsSigned w128 (a *ℤ b)
word_product_fits a b p q = fits (a *ℤ b) (omega (arith, word_product a b p q))

pub word_product_returned : (a b : ℤ) → Narrow a → FitsSigned w64 b → to_z w128 (of_z w128 (a *ℤ b)) ≡ a *ℤ b
word_product_returned a b p q = returned (a *ℤ b) (omega (arith, word_product a b p q))

pub word_product_passed : (r w a b : ℤ) → Narrow a → FitsSigned w64 b → w ≡ to_z w64 (of_z w64 b) → r ≡ to_z w128 (of_z w128 a) *ℤ to_z w128 (of_z w128 w) → to_z w128 (of_z w128 r) ≡ a *ℤ b
word_product_passed r w a b p q e f = rw (f, word_passed w b q e, narrow_returned a p) (word_product_returned a b p q)

-- ---- a difference of two products of narrow numbers

pub products_difference_fits : (a b c d : ℤ) → Narrow a → Narrow b → Narrow c → Narrow d → FitsSigned w128 (a *ℤ b -ℤ c *ℤ d)
products_difference_fits a b c d p q r s = fits (a *ℤ b -ℤ c *ℤ d) (omega (arith, narrow_products_difference a b c d p q r s))

pub products_difference_returned : (a b c d : ℤ) → Narrow a → Narrow b → Narrow c → Narrow d → to_z w128 (of_z w128 (a *ℤ b -ℤ c *ℤ d)) ≡ a *ℤ b -ℤ c *ℤ d
products_difference_returned a b c d p q r s = returned (a *ℤ b -ℤ c *ℤ d) (omega (arith, narrow_products_difference a b c d p q r s))

pub products_difference_passed : (z x y a b c d : ℤ) → Narrow a → Narrow b → Narrow c → Narrow d → x ≡ to_z w128 (of_z w128 a) *ℤ to_z w128 (of_z w128 b) → y ≡ to_z w128 (of_z w128 c) *ℤ to_z w128 (of_z w128 d) → z ≡ to_z w128 (of_z w128 x) -ℤ to_z w128 (of_z w128 y) → to_z w128 (of_z w128 z) ≡ a *ℤ b -ℤ c *ℤ d
products_difference_passed z x y a b c d p q r s e f g = rw (g, product_passed x a b p q e, product_passed y c d r s f) (products_difference_returned a b c d p q r s)

-- ---- the same of numbers up to 2^62, as the parts of fractions that are added or multiplied

pub part_returned : (a : ℤ) → unsigned_abs a ≤ 2 ^ 62 → to_z w128 (of_z w128 a) ≡ a
part_returned a p = returned a (omega arith)

pub part_product_returned : (a b : ℤ) → unsigned_abs a ≤ 2 ^ 62 → unsigned_abs b ≤ 2 ^ 62 → to_z w128 (of_z w128 (a *ℤ b)) ≡ a *ℤ b
part_product_returned a b p q = returned (a *ℤ b) (omega (arith, part_product a b p q))

pub part_product_passed : (r a b : ℤ) → unsigned_abs a ≤ 2 ^ 62 → unsigned_abs b ≤ 2 ^ 62 → r ≡ to_z w128 (of_z w128 a) *ℤ to_z w128 (of_z w128 b) → to_z w128 (of_z w128 r) ≡ a *ℤ b
part_product_passed r a b p q e = rw (e, part_returned a p, part_returned b q) (part_product_returned a b p q)

pub part_products_sum_returned : (a b c d : ℤ) → unsigned_abs a ≤ 2 ^ 62 → unsigned_abs b ≤ 2 ^ 62 → unsigned_abs c ≤ 2 ^ 62 → unsigned_abs d ≤ 2 ^ 62 → to_z w128 (of_z w128 (a *ℤ b +ℤ c *ℤ d)) ≡ a *ℤ b +ℤ c *ℤ d
part_products_sum_returned a b c d p q r s = returned (a *ℤ b +ℤ c *ℤ d) (omega (arith, part_products_sum a b c d p q r s))

pub part_products_sum_passed : (z x y a b c d : ℤ) → unsigned_abs a ≤ 2 ^ 62 → unsigned_abs b ≤ 2 ^ 62 → unsigned_abs c ≤ 2 ^ 62 → unsigned_abs d ≤ 2 ^ 62 → x ≡ to_z w128 (of_z w128 a) *ℤ to_z w128 (of_z w128 b) → y ≡ to_z w128 (of_z w128 c) *ℤ to_z w128 (of_z w128 d) → z ≡ to_z w128 (of_z w128 x) +ℤ to_z w128 (of_z w128 y) → to_z w128 (of_z w128 z) ≡ a *ℤ b +ℤ c *ℤ d
part_products_sum_passed z x y a b c d p q r s e f g = rw (g, part_product_passed x a b p q e, part_product_passed y c d r s f) (part_products_sum_returned a b c d p q r s)
