-- The value in lowest terms has the denominator that was read.
use Rattle.std.proofs.Common.{◌≡◌, ℤ, pos, subst, ◌++◌, ◌∷◌, sym, ap, ◌∙◌, to_z, of_z, arith}
use Rattle.std.specs.Fmt.{signed_decimal}
use Rattle.std.specs.Int.{w128}
use Rattle.std.proofs.lemmas.Int.{ints, of_z-to_z, to_z_pos}
use Rattle.corr_num.specs.Fraction.{Fraction, IsLowest, IsReduced}
use Rattle.corr_num.proofs.LowestTerms.{lowest_unique}
use Rattle.corr_num.proofs.PrintedTerms.{returned}
use Rattle.report_reader.proofs.Fractions.{denominator_is, quotient_frac, small_one}
use Rattle.report_reader.proofs.words.quotient.Goals as goal

pub returns-then-den-clause-text : goal.returns-then-den-clause-text
returns-then-den-clause-text c =
    let size = c.in_ok-den.field-0 in
    let num : to_z w128 (of_z w128 c.args.num) ≡ c.args.num = returned c.args.num (omega (arith, c.requires)) in
    let den : to_z w128 size ≡ pos size = to_z_pos w128 size (omega (arith, c.in_ok-den.ensures.below)) in
    let same : c.of-value.result.den ≡ pos size =
    sym c.den.ensures.value ∙ sym (returned c.den.result (omega (arith, c.den.ensures.bound))) ∙ ap (to_z w128) c.if-den.true ∙ den in
    let reduced : IsReduced c.of-value.result (record { num = c.args.num; den = pos size }) = rw (num, den) at c.of-value.ensures in
    ap (λ l. signed_decimal c.args.num ++ 47 ∷ l) c.in_ok-den.ensures.text
    ∙ quotient_frac c.args.num (pos size) c.of-value.result reduced same (omega (arith, ints, den, c.if-den-lt2.false))

pub returns-then-den-lt2-clause-none : goal.returns-then-den-lt2-clause-none
returns-then-den-lt2-clause-none c = λ none d payoff other is.
    let size = c.in_ok-den.field-0 in
    let den : to_z w128 size ≡ pos size = to_z_pos w128 size (omega (arith, c.in_ok-den.ensures.below)) in
    let d_is =
    denominator_is d size c.args.den.now payoff.lowest.positive payoff.den c.in_ok-den.ensures.below c.in_ok-den.ensures.text is in
    absurd (other (small_one d size payoff.lowest.positive d_is (omega (arith, ints, den, c.if-den-lt2.true))))

pub returns-else-den-clause-none : goal.returns-else-den-clause-none
returns-else-den-clause-none c = λ none d payoff other is.
    let size = c.in_ok-den.field-0 in
    let num : to_z w128 (of_z w128 c.args.num) ≡ c.args.num = returned c.args.num (omega (arith, c.requires)) in
    let den : to_z w128 size ≡ pos size = to_z_pos w128 size (omega (arith, c.in_ok-den.ensures.below)) in
    let d_is : d ≡ pos size =
    denominator_is d size c.args.den.now payoff.lowest.positive payoff.den c.in_ok-den.ensures.below c.in_ok-den.ensures.text is in
    let reduced : IsReduced c.of-value.result (record { num = c.args.num; den = pos size }) = rw (num, den) at c.of-value.ensures in
    let lowest : IsLowest (record { num = c.args.num; den = pos size }) =
    subst (λ (x : ℤ). IsLowest (record { num = c.args.num; den = x })) d_is payoff.lowest in
    let one = lowest_unique c.of-value.result (record { num = c.args.num; den = pos size }) reduced.lowest lowest reduced.same in
    let same : c.den.result ≡ pos size = c.den.ensures.value ∙ ap (λ (f : Fraction). f.den) one in
    c.if-den.false (ap (of_z w128) (same ∙ sym den) ∙ of_z-to_z w128 size (omega (arith, c.in_ok-den.ensures.below)))
