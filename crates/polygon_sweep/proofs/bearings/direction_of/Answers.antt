-- Both quotients are exact, no larger than what they are quotients of, and share no factor any more.
use Rattle.std.proofs.Common.{rules, FitsSigned, arith}
use Rattle.std.specs.Int.{w128}
use Rattle.std.proofs.lemmas.Int.{to_z-of_z}
use Rattle.polygon_sweep.proofs.Divisors.{AreReduced, reduced}
use Rattle.polygon_sweep.proofs.bearings.direction_of.Goals as goal
use Rattle.polygon_sweep.proofs.bearings.direction_of.Goals.{After-quotient-2}

parts : (c : After-quotient-2) → AreReduced c.args.a c.args.b c.common_divisor-divisor.result c.quotient.result c.quotient-2.result
parts c =
    let a_fits = c.ranges.a in
    let b_fits = c.ranges.b in
    let divisor_fits : FitsSigned w128 c.common_divisor-divisor.result = search rules in
    let divisor = simp to_z-of_z at c.common_divisor-divisor.ensures.divisor in
    let above = c.common_divisor-divisor.ensures.positive in
    let a_is = simp to_z-of_z at c.quotient.ensures.rounded in
    let b_is = simp to_z-of_z at c.quotient-2.ensures.rounded in
    reduced c.args.a c.args.b c.common_divisor-divisor.result c.quotient.result c.quotient-2.result above divisor a_is b_is

pub invariant_of-result : goal.invariant_of-result
invariant_of-result c =
    let a_fits : FitsSigned w128 c.quotient.result = search rules in
    let b_fits : FitsSigned w128 c.quotient-2.result = search rules in
    let p = parts c in
    simp to_z-of_z (record { a_narrow = omega (arith, p.a_small, c.requires.a_narrow); b_narrow = omega (arith, p.b_small, c.requires.b_narrow) })

pub returns : goal.returns
returns c =
    let a_fits : FitsSigned w128 c.quotient.result = search rules in
    let b_fits : FitsSigned w128 c.quotient-2.result = search rules in
    let divisor_fits : FitsSigned w128 c.common_divisor-divisor.result = search rules in
    let args_a_fits = c.ranges.a in
    let args_b_fits = c.ranges.b in
    let divisor = simp to_z-of_z at c.common_divisor-divisor.ensures.divisor in
    let above = c.common_divisor-divisor.ensures.positive in
    let a_is = simp to_z-of_z at c.quotient.ensures.rounded in
    let b_is = simp to_z-of_z at c.quotient-2.ensures.rounded in
    let p = reduced c.args.a c.args.b c.common_divisor-divisor.result c.quotient.result c.quotient-2.result above divisor a_is b_is in
    simp to_z-of_z (record { coprime = p.coprime; same = (c.common_divisor-divisor.result, above, p.a_back, p.b_back) })
