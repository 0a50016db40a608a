use Rattle.std.proofs.Common.{◌≡◌, ◌≤◌, ◌*◌, ◌/◌, false, subst, sym, ap, ◌∙◌, arith}
use Rattle.std.specs.Int.{◌∣◌}
use Rattle.std.proofs.lemmas.List.Elements.{All-get_or}
use Rattle.number_words.specs.Number.{NumberView, IsPart}
use Rattle.number_words.specs.Chances.{common_denominator}
use Rattle.number_words.proofs.Multiples.{each_divides}
use Rattle.number_words.proofs.PartLists.{all_more, all_passed}
use Rattle.number_words.proofs.Parts.{parts_more, at_most_one, sum_over_one, sum_whole}
use Rattle.number_words.proofs.chances.sums_to_one.Goals as goal

pub loop-prob-preserved : goal.loop-prob-preserved
loop-prob-preserved c =
    let x = c.prob-item.result in
    let probs = c.args.probs.now in
    let i = c.loop-prob.prob-index in
    let common = c.args.common in
    let num_is = c.from.ensures ∙ c.num.ensures.value in
    let den_is = c.from-in-loop-prob.ensures ∙ c.den.ensures.value in
    let Signed : NumberView → Type 0 = λ (prob : NumberView). prob.negative ≡ false in
    let sign : x.negative ≡ false = subst Signed (sym c.prob-item.is) (All-get_or Signed probs i x c.loop-prob-test.true c.requires.signs) in
    let divides : x.den ∣ common = subst (λ n. x.den ∣ n) (sym c.requires.common) (subst (λ (p : NumberView). p.den ∣ common_denominator probs) (sym c.prob-item.is) (each_divides 1 probs i x c.loop-prob-test.true)) in
    let part : x.num * (common / x.den) ≤ common = subst (λ n. n ≤ common) (ap (λ n. n * (common / c.from-in-loop-prob.result)) num_is ∙ ap (λ d. x.num * (common / d)) den_is) (omega (arith, c.if-total-common.false)) in
    record {
      within = c.if-total-common.false;
      sum = parts_more common probs i x c.loop-prob.total c.from.result c.from-in-loop-prob.result _ c.loop-prob-test.true c.prob-item.is num_is den_is c.loop-prob.invariant.sum;
      parts = all_more IsPart probs i x c.loop-prob-test.true c.loop-prob.invariant.parts c.prob-item.is (sign, at_most_one common x.num x.den c.requires.positive divides part);
    }

pub returns-clause-value : goal.returns-clause-value
returns-clause-value c = sum_whole c.args.common c.args.probs.now c.loop-prob.prob-index c.loop-prob.total c.requires.common c.requires.signs c.loop-prob-test.false c.loop-prob.invariant.sum

pub returns-clause-parts : goal.returns-clause-parts
returns-clause-parts c = λ all. all_passed IsPart c.args.probs.now c.loop-prob.prob-index c.loop-prob-test.false c.loop-prob.invariant.parts

pub returns-then-total-common-clause-value : goal.returns-then-total-common-clause-value
returns-then-total-common-clause-value c =
    let num_is = c.from.ensures ∙ c.num.ensures.value in
    let den_is = c.from-in-loop-prob.ensures ∙ c.den.ensures.value in
    let more = parts_more c.args.common c.args.probs.now c.loop-prob.prob-index c.prob-item.result c.loop-prob.total c.from.result c.from-in-loop-prob.result _ c.loop-prob-test.true c.prob-item.is num_is den_is c.loop-prob.invariant.sum in
    sum_over_one c.args.common c.args.probs.now _ _ c.requires.common c.requires.signs more c.if-total-common.true
