-- What `work` answers: a text and a status, one constructor for each case.
use Rattle.std.specs.Prelude.{◌≡◌, ℕ, ◌^◌, ◌<◌, ◌≤◌, List, length}
use Rattle.answer_text.specs.SummaryText.{summary_text}
use Rattle.command_words.specs.declared.commands.Notions.{Notions}
use Rattle.command_words.specs.Selection.{selected}
use Rattle.game_gen.specs.declared.kinds.Kind.{Kind}
use Rattle.game_gen.specs.GameText.{game_text, greatest}
use Rattle.report_form.specs.declared.refusals.Refusal.{Refusal}
use Rattle.report_form.specs.declared.refusals.Refusal.TheVariants.{TooLarge}
use Rattle.report_form.specs.View.{ReportView}
use Rattle.report_text.specs.RefusalText.{refusal_text}
use Rattle.corr_run.specs.declared.status.Status.{Status}
use Rattle.corr_run.specs.declared.status.Status.TheVariants.{Refused}
use Rattle.corr_run.specs.FirstRefusal.{IsFirstRefusal}
use Rattle.corr_run.specs.Lines.{too_long_line}
use Rattle.corr_run.specs.Reports.{HasStatus}
use Rattle.corr_run.specs.SolvedReport.{IsReportOn}

-- the size is within the greatest of its kind, and the game's file is within the limit of `solve`
pub record IsSolvable (kind : Kind) (n seed : ℕ) : Type 0 where
  pub within : n ≤ greatest kind
  pub short : length (game_text kind n seed) ≤ 2 ^ 22

-- the text and the status that `work` gives: the line of the first refusal of the game's file, or the summary of a report on it
pub data WorkAnswer (kind : Kind) (n seed : ℕ) (notions : Notions) (text : List ℕ) (status : Status) : Type 0 where
  too_large : greatest kind < n → text ≡ refusal_text (TooLarge (greatest kind)) → status ≡ Refused → WorkAnswer kind n seed notions text status
  too_long : n ≤ greatest kind → 2 ^ 22 < length (game_text kind n seed) → text ≡ too_long_line → status ≡ Refused → WorkAnswer kind n seed notions text status
  refused : IsSolvable kind n seed → (refusal : Refusal) → IsFirstRefusal (selected notions) (game_text kind n seed) refusal → text ≡ refusal_text refusal → status ≡ Refused → WorkAnswer kind n seed notions text status
  summed : IsSolvable kind n seed → (report : ReportView) → IsReportOn notions (game_text kind n seed) report → text ≡ summary_text kind n seed report.blocks → HasStatus report.blocks status → WorkAnswer kind n seed notions text status
