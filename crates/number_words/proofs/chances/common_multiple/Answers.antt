use Rattle.std.proofs.Common.{◌≡◌, ℕ, ◌*◌, ◌/◌, ap, sym, subst, ◌∙◌}
use Rattle.number_words.specs.Chances.{IsKept, common_multiple}
use Rattle.number_words.proofs.Multiples.{kept_multiple, none_multiple}
use Rattle.number_words.proofs.chances.common_multiple.Goals as goal

pub returns : goal.returns
returns c = λ whole kept.
    let common = c.in_ok-common.common in
    let here = subst (λ o. IsKept o whole) c.in_ok-common.was kept in
    let multiple_is : common / c.common_divisor.result * c.from-den.result ≡ common_multiple common c.args.den =
    ap (λ (g : ℕ). common / g * c.from-den.result) c.common_divisor.ensures.value ∙ ap (λ (d : ℕ). common_multiple common d) c.from-den.ensures in
    subst (λ o. IsKept o (common_multiple whole c.args.den)) (sym c.then_some.ensures) (kept_multiple common whole c.args.den _ here.0 here.1 c.requires.den multiple_is)

pub returns-in_err-common : goal.returns-in_err-common
returns-in_err-common c = λ whole kept.
    let over = subst (λ o. IsKept o whole) c.in_err-common.was kept in
    subst (λ o. IsKept o (common_multiple whole c.args.den)) (sym c.from_residual.ensures) (none_multiple whole c.args.den c.requires.den over)
