use Rattle.solver_laws.proofs.DrawnPairs.{entries_drawn, entry_drawn, reduced_planned}
use Rattle.solver_laws.proofs.pairs.reduced_pairs_are_drawn.Goals as goal

pub returns-clause-planned : goal.returns-clause-planned
returns-clause-planned c = reduced_planned

pub returns-clause-one : goal.returns-clause-one
returns-clause-one c = entry_drawn

pub returns-clause-drawn : goal.returns-clause-drawn
returns-clause-drawn c = entries_drawn
