use Rattle.equilibrium_solutions.proofs.Same.{none_gains_where}
use Rattle.equilibrium_solutions.proofs.decisions.none_gains_exactly_where_there_are_values.Goals as goal

pub returns : goal.returns
returns c = none_gains_where
