use Rattle.text_laws.proofs.ReportsOn.{blocks_counted, reports_are_unrefused, scales_once}
use Rattle.text_laws.proofs.answers.reports_are_on_one_game.Goals as goal

pub returns-clause-scales : goal.returns-clause-scales
returns-clause-scales c = scales_once

pub returns-clause-blocks : goal.returns-clause-blocks
returns-clause-blocks c = blocks_counted

pub returns-clause-unrefused : goal.returns-clause-unrefused
returns-clause-unrefused c = reports_are_unrefused
