use Rattle.run_laws.proofs.TrueExact.{yes_exact}
use Rattle.run_laws.proofs.reports.yes_means_exact.Goals as goal

pub returns : goal.returns
returns c = yes_exact c.true_sides_are_certified.ensures c.true_multipliers_show_empty.ensures
