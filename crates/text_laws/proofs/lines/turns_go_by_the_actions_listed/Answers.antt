use Rattle.text_laws.proofs.LineTurns.{draws_counted, moves_within, nobody_acts, same_turns}
use Rattle.text_laws.proofs.lines.turns_go_by_the_actions_listed.Goals as goal

pub returns-clause-same : goal.returns-clause-same
returns-clause-same c = same_turns

pub returns-clause-drawn : goal.returns-clause-drawn
returns-clause-drawn c = draws_counted

pub returns-clause-moved : goal.returns-clause-moved
returns-clause-moved c = moves_within

pub returns-clause-over : goal.returns-clause-over
returns-clause-over c = nobody_acts
