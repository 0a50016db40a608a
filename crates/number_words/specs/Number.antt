-- Numbers of a file: in lowest terms, within the limits of the format.
use Rattle.std.specs.Prelude.{◌≡◌, ℕ, ◌^◌, ◌<◌, ◌≤◌, Bool, ℤ, pos, neg_ℤ, ◌≤ℤ◌, unsigned_abs, false, if◌then◌else◌}
use Rattle.std.specs.Int.{IsGcd}
use Rattle.corr_num.specs.Fraction.{Fraction}

-- a sign, the magnitude of a numerator, and a denominator
pub record NumberView : Type 0 where
  pub negative : Bool
  pub num : ℕ
  pub den : ℕ

-- in lowest terms and within the limits; 0 has no sign
pub record IsNumber (number : NumberView) : Type 0 where
  pub num_in_range : number.num ≤ 2 ^ 40
  pub den_in_range : number.den ≤ 2 ^ 24
  pub den_positive : 0 < number.den
  pub lowest : IsGcd number.num number.den 1
  pub zero : number.num ≡ 0 → number.negative ≡ false

-- a number from 0 to 1
abbrev pub IsPart : NumberView → Type 0
IsPart number = (number.negative ≡ false) × (number.num ≤ number.den)

-- the numerator with the sign
abbrev pub signed : NumberView → ℤ
signed number = if number.negative then neg_ℤ (pos number.num) else pos number.num

-- the same number as a fraction
abbrev pub fraction_of : NumberView → Fraction
fraction_of number = record { num = signed number; den = pos number.den }

-- a number within the limits of the format: its numerator and denominator in lowest terms
abbrev pub IsLimited : Fraction → Type 0
IsLimited number = (unsigned_abs number.num ≤ 2 ^ 40) × (unsigned_abs number.den ≤ 2 ^ 24)

-- a probability is within the limits, and from 0 to 1
abbrev pub IsProbability : Fraction → Type 0
IsProbability number = IsLimited number × (pos 0 ≤ℤ number.num) × (number.num ≤ℤ number.den)
