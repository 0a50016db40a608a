-- With no leading zero the digits are the text of their value.
use Rattle.std.proofs.Common.{◌≡◌, ◌<◌, ◌≤◌, ◌^◌, true, length, get_or, inl, inr, sym, ap, ◌∙◌, arith}
use Rattle.std.specs.Fmt.{decimal}
use Rattle.std.specs.Str.{all_ascii_digits}
use Rattle.std.specs.Str.Parse.{digits_value, digits_value_after}
use Rattle.std.proofs.lemmas.Bool.{eqb-false, eqb-true}
use Rattle.std.proofs.lemmas.List.{at_drop_all}
use Rattle.report_reader.proofs.Numerals.{at_most_value, decimal_value, no_other_byte, number_text}
use Rattle.report_reader.proofs.words.magnitude.Goals.{then-is_empty-via-then-is_empty, then-is_empty-via-else-is_empty+then-digits-gt1}
use Rattle.report_reader.proofs.words.magnitude.Goals as goal

pub returns-then-value-limit-clause-text : goal.returns-then-value-limit-clause-text
returns-then-value-limit-clause-text c =
    let digits = c.args.digits.now in
    let index = c.loop-digit.digit-index in
    let over : length digits ≤ index = omega (arith, c.loop-digit-test.false) in
    let all : all_ascii_digits digits ≡ true = sym c.loop-digit.invariant.digits ∙ at_drop_all all_ascii_digits digits index over in
    let value : digits_value 10 digits ≡ c.loop-digit.value =
    sym c.loop-digit.invariant.value ∙ at_drop_all (digits_value_after 10 c.loop-digit.value) digits index over in
    let some = eqb-false (length digits) 0 (sym c.if-is_empty.ensures) in
    let lead : get_or digits 0 0 ≡ 48 → length digits ≡ 1 = λ zero. elim c.if-digits-gt1.either [
      | inl one ↦ omega (arith, one.1, some)
      | inr other ↦ absurd (other zero)
    ] in
    let small : c.loop-digit.value < 10 ^ 64 = omega (arith, c.if-value-limit.true, c.ranges.limit.fits) in
    decimal_value digits all (omega (arith, some)) lead (omega (arith, value, small)) ∙ ap decimal value

pub returns-then-is_empty-clause-none : goal.returns-then-is_empty-clause-none
returns-then-is_empty-clause-none c = λ none n below is.
    let text = number_text n c.args.digits.now (omega (arith, below, c.ranges.limit.fits)) is in
    elim c.then-is_empty.branch [
      | then-is_empty-via-then-is_empty w ↦
          absurd (omega (arith, text.some, eqb-true (length c.args.digits.now) 0 (sym w.if-is_empty.ensures)))
      | then-is_empty-via-else-is_empty+then-digits-gt1 w ↦ absurd (omega (arith, w.if-digits-gt1.true, text.lead w.if-digits-gt1.true.0))
    ]

pub returns-then-not-is_ascii_digit-clause-none : goal.returns-then-not-is_ascii_digit-clause-none
returns-then-not-is_ascii_digit-clause-none c = λ none n below is.
    no_other_byte c.args.digits.now c.loop-digit.digit-index n (omega (arith, below, c.ranges.limit.fits)) c.loop-digit-test.true
    c.loop-digit.invariant.digits is c.if-not-is_ascii_digit.ensures.value

pub returns-in_err-checked_mul-clause-none : goal.returns-in_err-checked_mul-clause-none
returns-in_err-checked_mul-clause-none c = λ none n below is.
    let most =
    at_most_value c.args.digits.now c.loop-digit.digit-index n (omega (arith, below, c.ranges.limit.fits)) c.loop-digit-test.true
    c.loop-digit.invariant.digits is c.loop-digit.value c.loop-digit.invariant.value in
    c.in_err-checked_mul.ensures (omega (arith, most, below, c.ranges.limit.fits))

pub returns-in_err-value-clause-none : goal.returns-in_err-value-clause-none
returns-in_err-value-clause-none c = λ none n below is.
    let most =
    at_most_value c.args.digits.now c.loop-digit.digit-index n (omega (arith, below, c.ranges.limit.fits)) c.loop-digit-test.true
    c.loop-digit.invariant.digits is c.loop-digit.value c.loop-digit.invariant.value in
    c.in_err-value.ensures (omega (arith, most, below, c.ranges.limit.fits, c.in_ok-checked_mul.ensures.1, c.from.ensures))

pub returns-else-value-limit-clause-none : goal.returns-else-value-limit-clause-none
returns-else-value-limit-clause-none c = λ none n below is.
    let digits = c.args.digits.now in
    let text = number_text n digits (omega (arith, below, c.ranges.limit.fits)) is in
    let over : length digits ≤ c.loop-digit.digit-index = omega (arith, c.loop-digit-test.false) in
    let end = at_drop_all (digits_value_after 10 c.loop-digit.value) digits c.loop-digit.digit-index over in
    absurd (omega (arith, below, c.if-value-limit.false, text.value, c.loop-digit.invariant.value, end))
