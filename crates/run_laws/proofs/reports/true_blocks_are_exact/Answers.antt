use Rattle.run_laws.proofs.TrueExact.{block_exact}
use Rattle.run_laws.proofs.reports.true_blocks_are_exact.Goals as goal

pub returns : goal.returns
returns c = block_exact c.true_sides_are_certified.ensures c.true_multipliers_show_empty.ensures
