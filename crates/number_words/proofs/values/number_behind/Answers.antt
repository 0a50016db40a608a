use Rattle.std.proofs.Common.{◌+◌, ◌*◌, drop, ap, sym, ◌∙◌}
use Rattle.std.specs.Str.Parse.{digits_value_after}
use Rattle.std.proofs.lemmas.List.{at_drop_more}
use Rattle.number_words.proofs.Digits.{over_end, digit_is}
use Rattle.number_words.proofs.values.number_behind.Goals as goal

pub returns-then-value-end-clause-value : goal.returns-then-value-end-clause-value
returns-then-value-end-clause-value c =
    let i = c.loop-byte.byte-index in
    let digits = c.args.digits.now in
    let value = c.loop-byte.value in
    let is = sym c.is_ascii_digit.ensures.value ∙ c.if-not-is_ascii_digit.false in
    let digit = c.from.ensures ∙ digit_is _ is in
    let more = at_drop_more (digits_value_after 10 value) digits i 0 c.loop-byte-test.true in
    over_end c.args.front (value * 10 + c.from.result) c.args.end digits (drop (i + 1) digits) (ap (λ n. digits_value_after 10 (value * 10 + n) (drop (i + 1) digits)) digit ∙ sym more ∙ c.loop-byte.invariant.value) c.if-value-end.true
