use Rattle.std.proofs.Common.{sym, ◌∙◌}
use Rattle.command_words.proofs.Given.{pair_of}
use Rattle.command_words.proofs.options.Given.with.Goals as goal

pub returns : goal.returns
returns c = pair_of c.with_labelled.result c.in-Some.label c.args.self _ _ (sym c.as_str.ensures.value ∙ (rw c.in-Some.is at c.label_of.ensures)) c.with_labelled.ensures
