use Rattle.text_laws.proofs.TellingTexts.{no_refused_report, no_refused_summary, no_refused_verdict}
use Rattle.text_laws.proofs.texts.refusals_are_no_answers.Goals as goal

pub returns-clause-report : goal.returns-clause-report
returns-clause-report c = no_refused_report

pub returns-clause-verdict : goal.returns-clause-verdict
returns-clause-verdict c = no_refused_verdict

pub returns-clause-summary : goal.returns-clause-summary
returns-clause-summary c = no_refused_summary
