use Rattle.solver_laws.proofs.OnePath.{each_of_set, own_of_set}
use Rattle.solver_laws.proofs.trees.nodes_have_their_sets_sequence.Goals as goal

pub returns-clause-own : goal.returns-clause-own
returns-clause-own c = own_of_set

pub returns-clause-each : goal.returns-clause-each
returns-clause-each c = each_of_set
