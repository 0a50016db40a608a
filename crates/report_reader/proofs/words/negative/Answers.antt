-- Behind a minus stands a magnitude that isn't 0.
use Rattle.std.proofs.Common.{refl, arith}
use Rattle.report_reader.proofs.Numerals.{no_negative, number_text}
use Rattle.report_reader.proofs.words.negative.Goals as goal

pub returns-in_err-size-clause-none : goal.returns-in_err-size-clause-none
returns-in_err-size-clause-none c = λ none.
    no_negative c.args.digits.now c.args.limit (omega (arith, c.ranges.limit.fits)) (λ n some. c.in_err-size.ensures.none refl n)

pub returns-then-size-eq0-clause-none : goal.returns-then-size-eq0-clause-none
returns-then-size-eq0-clause-none c = λ none.
    no_negative c.args.digits.now c.args.limit (omega (arith, c.ranges.limit.fits)) (λ n some below is.
    let zero_is = number_text c.in_ok-size.size c.args.digits.now (omega (arith, c.if-size-eq0.true)) c.in_ok-size.ensures.text in
    let other_is = number_text n c.args.digits.now (omega (arith, below, c.ranges.limit.fits)) is in
    absurd (omega (arith, zero_is.value, other_is.value, some, c.if-size-eq0.true)))
