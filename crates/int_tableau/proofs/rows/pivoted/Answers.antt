-- Zeros leave 0. Elsewhere the numbers come back from their bits, and `pivot_entry` says the rest.
use Rattle.std.proofs.Common.{◌≡◌, pos, ◌∙◌, refl, arith}
use Rattle.std.proofs.lemmas.Int.{ints}
use Rattle.corr_num.proofs.PrintedTerms.{word_passed}
use Rattle.int_tableau.proofs.ExactEntries.{zero_of_zeros, some_quotient, word_of_narrow}
use Rattle.int_tableau.proofs.rows.pivoted.Goals as goal

pub returns-then-c-eq0-clause-exact : goal.returns-then-c-eq0-clause-exact
returns-then-c-eq0-clause-exact c = λ q e.
    let a : c.args.a ≡ pos 0 = omega (arith, ints) in
    let k : c.args.c ≡ pos 0 = omega (arith, ints) in
    zero_of_zeros c.args.a c.args.p c.args.b c.args.c c.args.d q a k c.requires.positive e

pub returns-in-Some-clause-exact : goal.returns-in-Some-clause-exact
returns-in-Some-clause-exact c = λ q e.
    let a = word_passed c.from.result c.args.a c.ranges.a c.from.ensures in
    let p = word_passed c.from-2.result c.args.p c.ranges.p c.from-2.ensures in
    let b = word_passed c.from-3.result c.args.b c.ranges.b c.from-3.ensures in
    let k = word_passed c.from-4.result c.args.c c.ranges.c c.from-4.ensures in
    let d = word_passed c.from-5.result c.args.d c.ranges.d c.from-5.ensures in
    let exact = rw (a, p, b, k, d) at c.in-Some.ensures.exact in
    let wide = rw (a, p, b, k, d) at c.in-Some.ensures.wide in
    word_of_narrow c.in-Some.entry c.in-Some.ensures.narrow ∙ some_quotient c.in-Some.entry q (exact q e) (wide q e)

pub returns-in-None-clause-exact : goal.returns-in-None-clause-exact
returns-in-None-clause-exact c = λ q e.
    let a = word_passed c.from.result c.args.a c.ranges.a c.from.ensures in
    let p = word_passed c.from-2.result c.args.p c.ranges.p c.from-2.ensures in
    let b = word_passed c.from-3.result c.args.b c.ranges.b c.from-3.ensures in
    let k = word_passed c.from-4.result c.args.c c.ranges.c c.from-4.ensures in
    let d = word_passed c.from-5.result c.args.d c.ranges.d c.from-5.ensures in
    let wide = rw (a, p, b, k, d) at c.in-None.ensures.wide in
    (wide q e).0 refl
