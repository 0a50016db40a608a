use Rattle.solver_laws.proofs.OnePath.{relevant_back_one, relevant_back_two}
use Rattle.solver_laws.proofs.trees.relevant_sequences_go_back.Goals as goal

pub returns-clause-one : goal.returns-clause-one
returns-clause-one c = relevant_back_one

pub returns-clause-two : goal.returns-clause-two
returns-clause-two c = relevant_back_two
