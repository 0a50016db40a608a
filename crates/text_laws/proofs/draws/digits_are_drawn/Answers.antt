use Rattle.text_laws.proofs.Drawing.{first_draw, increment, is_digit, state_within}
use Rattle.text_laws.proofs.draws.digits_are_drawn.Goals as goal

pub returns-clause-digit : goal.returns-clause-digit
returns-clause-digit c = is_digit

pub returns-clause-state : goal.returns-clause-state
returns-clause-state c = state_within

pub returns-clause-increment : goal.returns-clause-increment
returns-clause-increment c = increment

pub returns-clause-first : goal.returns-clause-first
returns-clause-first c = first_draw
