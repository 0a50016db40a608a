-- A report on the game that some bytes say, by the notions that were selected.
use Rattle.std.specs.Prelude.{ℕ, List}
use Rattle.cert_check.specs.Scales.{HasScales}
use Rattle.command_words.specs.declared.commands.Notions.{Notions}
use Rattle.command_words.specs.Selection.{selected}
use Rattle.connected_pairs.specs.Connected.{PairsView}
use Rattle.corr_game.specs.Game.{GameView}
use Rattle.report_form.specs.Ranges.{IsReport}
use Rattle.report_form.specs.View.{ReportView}
use Rattle.corr_run.specs.FirstRefusal.{IsGameFor}
use Rattle.corr_run.specs.Reports.{AreBlocksOf, AreRight}

-- The bytes are refused for no reason. The report has their game's scales and a block for each selected notion, in
-- order, and each block is right for its notion.
pub record IsReportOn (notions : Notions) (bytes : List ℕ) (report : ReportView) : Type 0 where
  pub g : GameView
  pub p : PairsView
  pub game : IsGameFor (selected notions) bytes g p
  pub ranges : IsReport report
  pub scales : HasScales g report
  pub blocks : AreBlocksOf notions report.blocks
  pub right : AreRight g p report.blocks
