use Rattle.text_laws.proofs.OneLine.{one_refusal_a_line}
use Rattle.text_laws.proofs.texts.refusals_are_told_by_their_lines.Goals as goal

pub returns : goal.returns
returns c = one_refusal_a_line
