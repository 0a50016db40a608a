use Rattle.plan_polytope.proofs.OneProgram.{one_coefficient, one_cols, one_count, one_payoff, one_right}
use Rattle.plan_polytope.proofs.laws.notions_have_one_program.Goals as goal

pub returns-clause-columns : goal.returns-clause-columns
returns-clause-columns c = one_cols

pub returns-clause-rows : goal.returns-clause-rows
returns-clause-rows c = one_count

pub returns-clause-coefficients : goal.returns-clause-coefficients
returns-clause-coefficients c = one_coefficient

pub returns-clause-right_sides : goal.returns-clause-right_sides
returns-clause-right_sides c = one_right

pub returns-clause-payoffs : goal.returns-clause-payoffs
returns-clause-payoffs c = one_payoff
