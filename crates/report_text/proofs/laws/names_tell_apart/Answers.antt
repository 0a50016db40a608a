use Rattle.report_text.proofs.Telling.{one_notion, one_player, one_rule}
use Rattle.report_text.proofs.laws.names_tell_apart.Goals as goal

pub returns-clause-notions : goal.returns-clause-notions
returns-clause-notions c = one_notion

pub returns-clause-players : goal.returns-clause-players
returns-clause-players c = one_player

pub returns-clause-rules : goal.returns-clause-rules
returns-clause-rules c = one_rule
