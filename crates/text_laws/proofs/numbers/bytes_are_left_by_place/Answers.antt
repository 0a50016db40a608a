use Rattle.text_laws.proofs.WholeWords.{fewer_left, none_left}
use Rattle.text_laws.proofs.numbers.bytes_are_left_by_place.Goals as goal

pub returns-clause-end : goal.returns-clause-end
returns-clause-end c = none_left

pub returns-clause-further : goal.returns-clause-further
returns-clause-further c = fewer_left
