-- The product of two numbers from 0 to 1 is one, also in lowest terms.
use Rattle.std.proofs.Common.{◌≡◌, ℤ, pos, ◌*ℤ◌, ◌<ℤ◌, ◌≤ℤ◌, sym, subst, ◌∙◌, arith}
use Rattle.std.proofs.lemmas.Int.{ints}
use Rattle.exact_algebra.proofs.RingLaws.{*ℤ_comm}
use Rattle.exact_algebra.proofs.Order.{product_not_negative, product_positive, products_at_most, factor_not_negative, cancel_at_most, times_at_most}
use Rattle.corr_num.specs.Fraction.{Fraction, IsReduced, fraction_product}
use Rattle.game_scale.specs.Paths.{IsChance}

-- a number in lowest terms is from 0 to 1 where the fraction is
pub reduced_chance : (r p : Fraction) → pos 0 <ℤ p.den → IsReduced r p → IsChance p → IsChance r
reduced_chance r p above h c =
    let same : p.den *ℤ r.num ≡ r.den *ℤ p.num = *ℤ_comm p.den r.num ∙ h.same ∙ *ℤ_comm p.num r.den in
    let some : pos 0 ≤ℤ r.den = omega (arith, ints, h.lowest.positive) in
    let low : pos 0 ≤ℤ (p.den *ℤ r.num) = subst (λ (z : ℤ). pos 0 ≤ℤ z) (sym same) (product_not_negative some c.0) in
    let high : (p.den *ℤ r.num) ≤ℤ (p.den *ℤ r.den) = subst (λ (z : ℤ). z ≤ℤ (p.den *ℤ r.den)) (sym same) (subst (λ (z : ℤ). (r.den *ℤ p.num) ≤ℤ z) (*ℤ_comm r.den p.den) (times_at_most r.den some c.1)) in
    (factor_not_negative p.den above low, cancel_at_most p.den above high)

pub product_chance : (p q : Fraction) → IsChance p → IsChance q → IsChance (fraction_product p q)
product_chance p q c d = (product_not_negative c.0 d.0, products_at_most c.0 c.1 d.0 d.1)

pub reduced_product_chance : (r p q : Fraction) → pos 0 <ℤ p.den → pos 0 <ℤ q.den → IsReduced r (fraction_product p q) → IsChance p → IsChance q → IsChance r
reduced_product_chance r p q above below h c d = reduced_chance r (fraction_product p q) (product_positive above below) h (product_chance p q c d)
