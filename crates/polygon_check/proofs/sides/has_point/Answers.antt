-- Both products fit, so that their test is that of the numbers.
use Rattle.std.proofs.Common.{◌<◌, IsTrue, length, pos, arith}
use Rattle.corr_num.specs.Narrow.{Narrow}
use Rattle.corr_num.proofs.PrintedTerms.{narrow_returned}
use Rattle.polygon_check.proofs.sides.has_point.Goals as goal

pub returns-then-are_equal : goal.returns-then-are_equal
returns-then-are_equal c =
    let side = c.args.side.now in
    let corner = c.args.corner.now in
    let a_row : 0 < length side.first = omega (arith, c.requires.program.a_row, c.requires.in_range.first.each) in
    let a_row_too : 0 < length side.second = omega (arith, c.requires.program.a_row, c.requires.in_range.second.each) in
    let first : Narrow c.at.result.now = rw c.at.ensures.item (c.requires.in_range.first.narrow 0 (pos 0) a_row) in
    let second : Narrow c.at-then-are_equal.result.now = rw c.at-then-are_equal.ensures.item (c.requires.in_range.second.narrow 0 (pos 0) a_row_too) in
    let den = narrow_returned corner.den c.requires.corner.den in
    let side_den = narrow_returned side.den c.requires.in_range.scale.den in
    let one = rw (narrow_returned c.at.result.now first, den, narrow_returned corner.one c.requires.corner.one, side_den, c.at.ensures.item) at c.are_equal.ensures in
    let two = rw (narrow_returned c.at-then-are_equal.result.now second, den, narrow_returned corner.two c.requires.corner.two, side_den, c.at-then-are_equal.ensures.item) at c.are_equal-then-are_equal.ensures in
    let holds : IsTrue c.are_equal.result = c.if-are_equal.true in
    (λ yes. record { one = one.0 holds; two = two.0 yes }, λ point. two.1 point.two)
