-- What `check` answers: a text and a status, one constructor for each case.
use Rattle.std.specs.Prelude.{◌≡◌, ℕ, ◌^◌, ◌<◌, ◌≤◌, List, drop, length}
use Rattle.answer_text.specs.VerdictText.{verdict_text}
use Rattle.report_form.specs.declared.verdicts.Verdict.{Verdict}
use Rattle.report_form.specs.declared.verdicts.Verdict.TheVariants as verdict
use Rattle.cert_check.specs.Truth.{IsVerdictOn}
use Rattle.connected_pairs.specs.Connected.{PairsView}
use Rattle.corr_game.specs.Game.{GameView}
use Rattle.report_form.specs.declared.refusals.Refusal.{Refusal}
use Rattle.report_form.specs.declared.refusals.Refusal.TheVariants.{Report}
use Rattle.report_form.specs.View.{ReportView}
use Rattle.report_reader.specs.Syntax.{IsReadFrom}
use Rattle.report_text.specs.RefusalText.{refusal_text}
use Rattle.corr_run.specs.declared.status.Status.{Status}
use Rattle.corr_run.specs.declared.status.Status.TheVariants.{Yes, No, Refused, TooWide}
use Rattle.corr_run.specs.FirstRefusal.{IsFirstRefusal, IsGameFor}
use Rattle.corr_run.specs.Lines.{report_too_long_line}
use Rattle.corr_run.specs.Reports.{notions_of}

-- the status of a verdict
abbrev pub verdict_status : Verdict → Status
verdict_status verdict.Yes = Yes
verdict_status verdict.Partial = TooWide
verdict_status verdict.NoScale = No
verdict_status (verdict.No notion at broken) = No

-- the text and the status that `check` gives to its input: of the report whose text is its front, with a game's file behind it, the
-- file's first refusal, under the report's notions, or the verdict on the report
pub data CheckAnswer (input text : List ℕ) (status : Status) : Type 0 where
  too_long : 2 ^ 30 < length input → text ≡ report_too_long_line → status ≡ Refused → CheckAnswer input text status
  no_report : length input ≤ 2 ^ 30 → (at : ℕ) → at ≤ length input → text ≡ refusal_text (Report at) → status ≡ Refused → CheckAnswer input text status
  refused : length input ≤ 2 ^ 30 → (place : ℕ) (report : ReportView) → IsReadFrom input report place
      → (refusal : Refusal) → IsFirstRefusal (notions_of report.blocks) (drop place input) refusal → text ≡ refusal_text refusal → status ≡ Refused → CheckAnswer input text status
  judged : length input ≤ 2 ^ 30 → (place : ℕ) (report : ReportView) → IsReadFrom input report place
      → (g : GameView) (p : PairsView) → IsGameFor (notions_of report.blocks) (drop place input) g p
      → (given : Verdict) → IsVerdictOn g p report given → text ≡ verdict_text given report.blocks → status ≡ verdict_status given → CheckAnswer input text status
