use Rattle.std.proofs.Common.{rules, ◌≡◌, FitsSigned, pos, ap, sym, subst, ◌∙◌}
use Rattle.std.specs.Int.{w128}
use Rattle.std.proofs.lemmas.Int.{to_z-of_z}
use Rattle.corr_num.specs.Fraction.{IsReduced}
use Rattle.number_words.specs.Number.{NumberView, IsNumber, IsProbability, fraction_of, signed}
use Rattle.number_words.proofs.Fractions.{reduced_is, part_is}
use Rattle.number_words.proofs.number.Number.frac.Goals as goal

value : (c : goal.After-of) → c.of.result ≡ fraction_of c.args.self.now
value c =
    let num_fits : FitsSigned w128 c.signed.result = search rules in
    let den_fits : FitsSigned w128 c.from.result = search rules in
    let reduced = simp to_z-of_z at c.of.ensures in
    let den_is = c.from.ensures ∙ ap (λ (n : NumberView). pos n.den) c.self.view_is in
    let here = subst (λ n. IsReduced c.of.result (record { num = n; den = c.from.result })) c.signed.ensures.value reduced in
    reduced_is c.args.self.now c.of.result (subst IsNumber c.self.view_is c.self.invariant) (subst (λ d. IsReduced c.of.result (record { num = signed c.args.self.now; den = d })) den_is here)

pub returns-clause-value : goal.returns-clause-value
returns-clause-value c = value c

pub returns-clause-part : goal.returns-clause-part
returns-clause-part c = λ part. subst IsProbability (sym (value c)) (part_is c.args.self.now (subst IsNumber c.self.view_is c.self.invariant) part)
