use Rattle.plan_decompose.proofs.ListSums.{rows_met, total_summed}
use Rattle.plan_decompose.proofs.laws.sums_of_reduced_plans_meet_the_rows.Goals as goal

pub returns-clause-rows : goal.returns-clause-rows
returns-clause-rows c = rows_met

pub returns-clause-total : goal.returns-clause-total
returns-clause-total c = total_summed
