use Rattle.text_laws.proofs.WholeWords.{not_both, one_limit, refused_where}
use Rattle.text_laws.proofs.numbers.sizes_are_refused_once.Goals as goal

pub returns-clause-one : goal.returns-clause-one
returns-clause-one c = one_limit

pub returns-clause-apart : goal.returns-clause-apart
returns-clause-apart c = not_both

pub returns-clause-named : goal.returns-clause-named
returns-clause-named c = refused_where
