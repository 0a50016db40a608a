use Rattle.equilibrium.proofs.LeafSums.{leaves_paid, names_all-plays}
use Rattle.equilibrium.proofs.laws.plans_pay_what_the_leaves_that_they_play_pay.Goals as goal

pub returns-clause-pays : goal.returns-clause-pays
returns-clause-pays c = leaves_paid

pub returns-clause-names : goal.returns-clause-names
returns-clause-names c = names_all-plays
