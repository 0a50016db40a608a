use Rattle.equilibrium_solutions.proofs.SumsTogether.{one_sum, sums_joined}
use Rattle.equilibrium_solutions.proofs.laws.column_sums_are_one_and_add_up.Goals as goal

pub returns-clause-one : goal.returns-clause-one
returns-clause-one c = one_sum

pub returns-clause-together : goal.returns-clause-together
returns-clause-together c = sums_joined
