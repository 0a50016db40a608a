-- Fractions of whole numbers, and their lowest terms (Euclid, Elements, book VII, propositions 21 and 22).
use Rattle.std.specs.Prelude.{◌≡◌, ◌≤◌, ℤ, pos, ◌+ℤ◌, ◌*ℤ◌, ◌<ℤ◌, unsigned_abs}
use Rattle.std.specs.Int.{IsGcd}

-- a numerator over a denominator
pub record Fraction : Type 0 where
  pub num : ℤ
  pub den : ℤ

-- two fractions are the same number
abbrev pub IsSameNumber : Fraction → Fraction → Type 0
IsSameNumber p q = p.num *ℤ q.den ≡ q.num *ℤ p.den

-- the denominator is above 0, and no number but 1 divides both parts
pub record IsLowest (p : Fraction) : Type 0 where
  pub positive : pos 0 <ℤ p.den
  pub coprime : IsGcd (unsigned_abs p.num) (unsigned_abs p.den) 1

-- r is the number p in lowest terms, so that its parts are no larger
pub record IsReduced (r p : Fraction) : Type 0 where
  pub same : IsSameNumber r p
  pub lowest : IsLowest r
  pub num_bound : unsigned_abs r.num ≤ unsigned_abs p.num
  pub den_bound : unsigned_abs r.den ≤ unsigned_abs p.den

-- the sum of two fractions, over the product of their denominators
abbrev pub fraction_sum : Fraction → Fraction → Fraction
fraction_sum p q = record { num = p.num *ℤ q.den +ℤ q.num *ℤ p.den; den = p.den *ℤ q.den }

-- the product of two fractions, over the product of their denominators
abbrev pub fraction_product : Fraction → Fraction → Fraction
fraction_product p q = record { num = p.num *ℤ q.num; den = p.den *ℤ q.den }
