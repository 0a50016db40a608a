use Rattle.std.proofs.Common.{sym, ◌∙◌}
use Rattle.std.proofs.lemmas.List.{at_drop_all}
use Rattle.number_words.specs.Chances.{has_negative}
use Rattle.number_words.proofs.Signs.{none_negative}
use Rattle.number_words.proofs.chances.has_negative.Goals as goal

pub returns-clause-none : goal.returns-clause-none
returns-clause-none c = λ all. none_negative c.args.probs.now (sym c.loop-prob.invariant ∙ at_drop_all has_negative c.args.probs.now c.loop-prob.prob-index c.loop-prob-test.false)
