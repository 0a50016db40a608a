use Rattle.text_laws.proofs.StandingLines.{limits_differ, report_too_long_names_its_limit, too_long_names_its_limit, usage_is_no_refusal}
use Rattle.text_laws.proofs.answers.standing_lines_are_told_apart.Goals as goal

pub returns-clause-game : goal.returns-clause-game
returns-clause-game c = too_long_names_its_limit

pub returns-clause-report : goal.returns-clause-report
returns-clause-report c = report_too_long_names_its_limit

pub returns-clause-differ : goal.returns-clause-differ
returns-clause-differ c = limits_differ

pub returns-clause-usage : goal.returns-clause-usage
returns-clause-usage c = usage_is_no_refusal
