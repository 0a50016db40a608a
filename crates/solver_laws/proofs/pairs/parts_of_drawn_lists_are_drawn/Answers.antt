use Rattle.solver_laws.proofs.DrawnPairs.{behind_drawn, front_drawn}
use Rattle.solver_laws.proofs.pairs.parts_of_drawn_lists_are_drawn.Goals as goal

pub returns-clause-front : goal.returns-clause-front
returns-clause-front c = front_drawn

pub returns-clause-behind : goal.returns-clause-behind
returns-clause-behind c = behind_drawn
