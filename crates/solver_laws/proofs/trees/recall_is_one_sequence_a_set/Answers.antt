use Rattle.solver_laws.proofs.OnePath.{recall_exactly}
use Rattle.solver_laws.proofs.trees.recall_is_one_sequence_a_set.Goals as goal

pub returns : goal.returns
returns c = recall_exactly
