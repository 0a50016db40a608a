-- The two comparisons tell.
use Rattle.corr_num.proofs.PrintedTerms.{narrow_returned}
use Rattle.polygon_sweep.proofs.readings.reaches.Goals as goal

pub returns-then-are_equal : goal.returns-then-are_equal
returns-then-are_equal g c =
    let right = narrow_returned c.args.corner.now.den c.requires.den in
    let den = narrow_returned c.denom-den.result c.denom-den.ensures.narrow in
    let first = rw (narrow_returned c.entry-one.result c.entry-one.ensures.narrow, right, narrow_returned c.args.corner.now.one c.requires.one, den, c.entry-one.ensures.value, c.denom-den.ensures.value) at c.are_equal.ensures in
    let second = rw (narrow_returned c.entry-two.result c.entry-two.ensures.narrow, right, narrow_returned c.args.corner.now.two c.requires.two, den, c.entry-two.ensures.value, c.denom-den.ensures.value) at c.are_equal-then-are_equal.ensures in
    (λ both. record { one = first.0 c.if-are_equal.true; two = second.0 both }, λ reached. second.1 reached.two)

pub returns-else-are_equal : goal.returns-else-are_equal
returns-else-are_equal g c =
    let right = narrow_returned c.args.corner.now.den c.requires.den in
    let den = narrow_returned c.denom-den.result c.denom-den.ensures.narrow in
    let first = rw (narrow_returned c.entry-one.result c.entry-one.ensures.narrow, right, narrow_returned c.args.corner.now.one c.requires.one, den, c.entry-one.ensures.value, c.denom-den.ensures.value) at c.are_equal.ensures in
    (λ equal. absurd (let not = c.if-are_equal.false in cc), λ reached. first.1 reached.one)
