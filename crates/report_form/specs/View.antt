-- What a report says: the scales by which a game's payoffs were multiplied, and a block for each selected notion.
use Rattle.std.specs.Prelude.{List, ℤ}
use Rattle.corr_game.specs.declared.sides.Side.{Side}
use Rattle.corr_game.specs.declared.sides.Side.TheVariants.{One, Two}
use Rattle.report_form.specs.declared.reports.NamedBlock.{NamedBlock}

pub record ReportView : Type 0 where
  pub scale_one : ℤ
  pub scale_two : ℤ
  pub blocks : List NamedBlock

-- a player's scale
abbrev pub scale_in : Side → ReportView → ℤ
scale_in One report = report.scale_one
scale_in Two report = report.scale_two
