-- A report is on this game by its scales.
use Rattle.std.specs.Prelude.{◌≡◌}
use Rattle.corr_game.specs.Game.{GameView}
use Rattle.report_form.specs.View.{ReportView}

-- both scales of the report are the game's
abbrev pub HasScales : GameView → ReportView → Type 0
HasScales g report = (report.scale_one ≡ g.scale_one) × (report.scale_two ≡ g.scale_two)
