-- The numerator comes back from its bits, so that an exact quotient is what the code divides, and the answer is what
-- `narrowed` says of it.
use Rattle.std.proofs.Common.{◌≡◌, ℤ, ◌*ℤ◌, ◌-ℤ◌, FitsSigned, rules}
use Rattle.std.specs.Int.{w128}
use Rattle.std.proofs.lemmas.Int.{to_z-of_z}
use Rattle.corr_num.specs.Quotient.{IsQuotient}
use Rattle.corr_num.proofs.PrintedTerms.{narrow_returned, product_returned, products_difference_returned}
use Rattle.corr_num.proofs.pivots.pivot_entry.Goals as goal

quotient_is : (c : goal.After-narrowed) (q : ℤ) → IsQuotient (c.args.a *ℤ c.args.p -ℤ c.args.b *ℤ c.args.c) c.args.d q → c.quotient.result ≡ q
quotient_is c q e =
    let a_narrow = c.requires.a_narrow in
    let p_narrow = c.requires.p_narrow in
    let b_narrow = c.requires.b_narrow in
    let c_narrow = c.requires.c_narrow in
    let d_narrow = c.requires.d_narrow in
    let first = simp narrow_returned at c.product.ensures in
    let second = simp narrow_returned at c.product-2.ensures in
    let numerator = simp product_returned at (rw (first, second) at c.difference-numerator.ensures) in
    let divided = rw (numerator, products_difference_returned, narrow_returned c.args.d d_narrow) at c.quotient.ensures.exact in
    divided q e

pub returns-clause-exact : goal.returns-clause-exact
returns-clause-exact c q e =
    let fits : FitsSigned w128 c.quotient.result = search rules in
    rw (quotient_is c q e) at (rw to_z-of_z at c.narrowed.ensures.exact)

pub returns-clause-wide : goal.returns-clause-wide
returns-clause-wide c q e =
    let fits : FitsSigned w128 c.quotient.result = search rules in
    rw (quotient_is c q e) at (rw to_z-of_z at c.narrowed.ensures.wide)
