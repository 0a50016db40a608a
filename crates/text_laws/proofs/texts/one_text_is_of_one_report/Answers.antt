use Rattle.text_laws.proofs.ReportTold.{one_report, one_report_read, report_told}
use Rattle.text_laws.proofs.texts.one_text_is_of_one_report.Goals as goal

pub returns-clause-text : goal.returns-clause-text
returns-clause-text c = one_report

pub returns-clause-front : goal.returns-clause-front
returns-clause-front c = report_told

pub returns-clause-read : goal.returns-clause-read
returns-clause-read c = one_report_read
