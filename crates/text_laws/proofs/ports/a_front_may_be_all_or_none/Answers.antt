use Rattle.text_laws.proofs.Fronts.{front_of_all, front_of_none, only_front_of_none}
use Rattle.text_laws.proofs.ports.a_front_may_be_all_or_none.Goals as goal

pub returns-clause-all : goal.returns-clause-all
returns-clause-all c = front_of_all

pub returns-clause-none : goal.returns-clause-none
returns-clause-none c = front_of_none

pub returns-clause-empty : goal.returns-clause-empty
returns-clause-empty c = only_front_of_none
