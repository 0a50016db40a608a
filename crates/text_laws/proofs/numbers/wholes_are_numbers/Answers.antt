use Rattle.text_laws.proofs.WholeWords.{digits_behind, digits_joined, whole_number}
use Rattle.text_laws.proofs.numbers.wholes_are_numbers.Goals as goal

pub returns-clause-number : goal.returns-clause-number
returns-clause-number c = whole_number

pub returns-clause-joined : goal.returns-clause-joined
returns-clause-joined c = digits_joined

pub returns-clause-apart : goal.returns-clause-apart
returns-clause-apart c = digits_behind
