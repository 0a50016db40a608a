use Rattle.text_laws.proofs.SolveAnswers.{long_once, node_once, solve_refused_once}
use Rattle.text_laws.proofs.answers.inputs_are_refused_by_one_line.Goals as goal

pub returns-clause-long : goal.returns-clause-long
returns-clause-long c = long_once

pub returns-clause-node : goal.returns-clause-node
returns-clause-node c = node_once

pub returns-clause-refused : goal.returns-clause-refused
returns-clause-refused c = solve_refused_once
