use Rattle.std.proofs.Common.{sym, ◌∙◌}
use Rattle.number_words.proofs.Digits.{front_none, front_some}
use Rattle.number_words.proofs.values.joined.Goals as goal

pub returns : goal.returns
returns c = c.number_behind-2.ensures.value ∙ front_some c.args.front.now c.args.back.now _ c.in_ok-number_behind.field-0 (sym c.in_ok-number_behind.was ∙ c.number_behind.ensures.value)

pub returns-in_err-number_behind : goal.returns-in_err-number_behind
returns-in_err-number_behind c = c.from_residual.ensures ∙ front_none c.args.front.now c.args.back.now _ (sym c.in_err-number_behind.was ∙ c.number_behind.ensures.value)
