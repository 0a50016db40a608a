-- What `solve` answers: a text and a status, one constructor for each case.
use Rattle.std.specs.Prelude.{◌≡◌, ℕ, ◌^◌, ◌<◌, ◌≤◌, List, length}
use Rattle.corr_game.specs.declared.payoffs.Pay.{Pay}
use Rattle.one_node_file.specs.FirstForm.{HasFirstForm}
use Rattle.report_form.specs.declared.refusals.Refusal.{Refusal}
use Rattle.report_form.specs.View.{ReportView}
use Rattle.report_text.specs.RefusalText.{refusal_text}
use Rattle.report_text.specs.ReportText.{report_text}
use Rattle.command_words.specs.declared.commands.Notions.{Notions}
use Rattle.command_words.specs.Selection.{selected}
use Rattle.corr_run.specs.declared.status.Status.{Status}
use Rattle.corr_run.specs.declared.status.Status.TheVariants.{Solved, Refused}
use Rattle.corr_run.specs.FirstRefusal.{IsFirstRefusal}
use Rattle.corr_run.specs.Lines.{too_long_line}
use Rattle.corr_run.specs.OneNode.{one_node_report}
use Rattle.corr_run.specs.Reports.{HasStatus}
use Rattle.corr_run.specs.SolvedReport.{IsReportOn}

-- the input isn't too long, and isn't a file of one terminal node with two amounts
pub record IsGeneral (input : List ℕ) : Type 0 where
  pub short : length input ≤ 2 ^ 22
  pub other : (pay : Pay) → HasFirstForm input pay → ⊥

-- the text and the status that `solve` gives to its input: the line of the first refusal, or a report on the file's game
pub data SolveAnswer (notions : Notions) (input text : List ℕ) (status : Status) : Type 0 where
  too_long : 2 ^ 22 < length input → text ≡ too_long_line → status ≡ Refused → SolveAnswer notions input text status
  one_node : length input ≤ 2 ^ 22 → (pay : Pay) → HasFirstForm input pay → text ≡ one_node_report notions pay → status ≡ Solved → SolveAnswer notions input text status
  refused : IsGeneral input → (refusal : Refusal) → IsFirstRefusal (selected notions) input refusal → text ≡ refusal_text refusal → status ≡ Refused → SolveAnswer notions input text status
  reported : IsGeneral input → (report : ReportView) → IsReportOn notions input report → text ≡ report_text report → HasStatus report.blocks status → SolveAnswer notions input text status
