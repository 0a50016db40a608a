use Rattle.equilibrium_solutions.proofs.Solving.{bounded_by_values}
use Rattle.equilibrium_solutions.proofs.decisions.choices_get_no_more_than_values.Goals as goal

pub returns : goal.returns
returns c = λ d value choice rules are is. bounded_by_values d rules value are choice is
