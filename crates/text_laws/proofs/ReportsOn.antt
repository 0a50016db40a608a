-- Reports on some bytes: bytes say one game.
use Rattle.std.proofs.Common.{◌≡◌, ℕ, List, length, sym, ap, ◌∙◌}
use Rattle.std.proofs.lemmas.List.{length-map}
use Rattle.corr_game.specs.declared.notions.Notion.{Notion}
use Rattle.corr_game.specs.Game.{GameView}
use Rattle.report_form.specs.declared.refusals.Refusal.{Refusal}
use Rattle.report_form.specs.declared.reports.NamedBlock.{NamedBlock}
use Rattle.report_form.specs.View.{ReportView}
use Rattle.command_words.specs.declared.commands.Notions.{Notions}
use Rattle.command_words.specs.Selection.{selected}
use Rattle.run_laws.proofs.OnePairs.{one_recalled}
use Rattle.run_laws.proofs.OneRefusal.{fitting_alone}
use Rattle.corr_run.specs.FirstRefusal.{IsFirstRefusal}
use Rattle.corr_run.specs.SolvedReport.{IsReportOn}

pub scales_once : (notions others : Notions) (bytes : List ℕ) (a b : ReportView) → IsReportOn notions bytes a
    → IsReportOn others bytes b → (a.scale_one ≡ b.scale_one) × (a.scale_two ≡ b.scale_two)
scales_once notions others bytes a b x y =
    let same : x.g ≡ y.g = (one_recalled bytes x.g y.g x.p y.p x.game.game.say y.game.game.say).0 in (
      x.scales.0 ∙ ap (λ (g : GameView). g.scale_one) same ∙ sym y.scales.0,
      x.scales.1 ∙ ap (λ (g : GameView). g.scale_two) same ∙ sym y.scales.1,
    )

pub blocks_counted : (notions : Notions) (bytes : List ℕ) (report : ReportView) → IsReportOn notions bytes report
    → length report.blocks ≡ length (selected notions)
blocks_counted notions bytes report on =
    sym (length-map report.blocks (λ (named : NamedBlock). named.notion)) ∙ ap (λ (ns : List Notion). length ns) on.blocks

pub reports_are_unrefused : (notions : Notions) (bytes : List ℕ) (report : ReportView) (refusal : Refusal)
    → IsReportOn notions bytes report → IsFirstRefusal (selected notions) bytes refusal → ⊥
reports_are_unrefused notions bytes report refusal on first = fitting_alone (selected notions) bytes on.g on.p refusal on.game first
