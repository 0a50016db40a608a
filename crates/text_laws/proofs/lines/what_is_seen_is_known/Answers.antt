use Rattle.text_laws.proofs.SeenTokens.{brace_left_back, brace_right_back, comma_back, nothing_seen}
use Rattle.text_laws.proofs.lines.what_is_seen_is_known.Goals as goal

pub returns-clause-nothing : goal.returns-clause-nothing
returns-clause-nothing c = nothing_seen

pub returns-clause-left : goal.returns-clause-left
returns-clause-left c = brace_left_back

pub returns-clause-right : goal.returns-clause-right
returns-clause-right c = brace_right_back

pub returns-clause-comma : goal.returns-clause-comma
returns-clause-comma c = comma_back
