use Rattle.text_laws.proofs.BlockTexts.{names_where_wide}
use Rattle.text_laws.proofs.CauseTexts.{one_cause}
use Rattle.text_laws.proofs.OneVerdict.{one_verdict_a_line}
use Rattle.text_laws.proofs.TellingTexts.{verdicts_told}
use Rattle.text_laws.proofs.texts.verdicts_are_told_by_their_lines.Goals as goal

pub returns-clause-one : goal.returns-clause-one
returns-clause-one c = one_verdict_a_line

pub returns-clause-status : goal.returns-clause-status
returns-clause-status c = verdicts_told

pub returns-clause-cause : goal.returns-clause-cause
returns-clause-cause c = one_cause

pub returns-clause-named : goal.returns-clause-named
returns-clause-named c = names_where_wide
