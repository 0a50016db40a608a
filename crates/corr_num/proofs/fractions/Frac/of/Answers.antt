-- Both quotients are exact, since the divisor divides both parts, and what is left of the two shares no factor.
use Rattle.std.proofs.Common.{rules, ◌≡◌, ◌*ℤ◌, FitsSigned, arith}
use Rattle.std.specs.Int.{w128}
use Rattle.std.proofs.lemmas.Int.{to_z-of_z}
use Rattle.corr_num.specs.Fraction.{IsReduced}
use Rattle.corr_num.proofs.ExactQuotients.{quotient_back}
use Rattle.corr_num.proofs.LowestTerms.{divided_reduced}
use Rattle.corr_num.proofs.fractions.Frac.of.Goals as goal

reduced : (c : goal.After-quotient-2) → IsReduced (record { num = c.quotient.result; den = c.quotient-2.result }) (record { num = c.args.num; den = c.args.den })
reduced c =
    let num_fits = c.ranges.num in
    let den_fits = c.ranges.den in
    let divisor_fits : FitsSigned w128 c.common_divisor-divisor.result = search rules in
    let divisor = simp to_z-of_z at c.common_divisor-divisor.ensures.divisor in
    let above = c.common_divisor-divisor.ensures.positive in
    let num_is = simp to_z-of_z at c.quotient.ensures.rounded in
    let den_is = simp to_z-of_z at c.quotient-2.ensures.rounded in
    let num_back : c.quotient.result *ℤ c.common_divisor-divisor.result ≡ c.args.num = rw num_is (quotient_back _ _ above divisor.0) in
    let den_back : c.quotient-2.result *ℤ c.common_divisor-divisor.result ≡ c.args.den = rw den_is (quotient_back _ _ above divisor.1) in
    divided_reduced _ _ c.common_divisor-divisor.result c.requires.positive above divisor num_back den_back

pub invariant_of-result : goal.invariant_of-result
invariant_of-result c =
    let num_fits : FitsSigned w128 c.quotient.result = search rules in
    let den_fits : FitsSigned w128 c.quotient-2.result = search rules in
    let r = reduced c in
    simp to_z-of_z (r.lowest, omega (arith, r.num_bound, c.requires.num_bound), omega (arith, r.den_bound, c.requires.den_bound))

pub returns : goal.returns
returns c =
    let num_fits : FitsSigned w128 c.quotient.result = search rules in
    let den_fits : FitsSigned w128 c.quotient-2.result = search rules in
    simp to_z-of_z (reduced c)
