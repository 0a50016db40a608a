-- The rules of a corner, in their order: its pairs are of reduced plans, its total and its point are theirs, and no player gains by
-- leaving the mediator (von Stengel and Forges 2008; Farina, Bianchi and Sandholm 2020).
use Rattle.std.specs.Prelude.{◌≡◌, List, [], ◌∷◌, All, ℤ}
use Rattle.corr_game.specs.declared.notions.Notion.{Notion}
use Rattle.corr_game.specs.declared.sides.Side.{Side}
use Rattle.corr_game.specs.declared.sides.Side.TheVariants.{One, Two}
use Rattle.corr_game.specs.Game.{GameView}
use Rattle.corr_num.specs.Narrow.{Narrow}
use Rattle.equilibrium.specs.Deviation.{following}
use Rattle.equilibrium.specs.Distribution.{entries_of, total}
use Rattle.equilibrium.specs.Equilibrium.{NoneImproves, no_slack}
use Rattle.deviation_gains.specs.Planned.{AreReduced}
use Rattle.report_form.specs.Certified.{IsPointIn}
use Rattle.report_form.specs.declared.reports.Corner.{Corner}
use Rattle.report_form.specs.declared.verdicts.Cause.{Cause}
use Rattle.report_form.specs.declared.verdicts.Cause.TheVariants.{Plan, Total, Width, Point, Gain}

-- what a player gets from the corner's pairs, by weight
abbrev pub sum_of : Side → GameView → Corner → ℤ
sum_of side g corner = following side g (entries_of corner.pairs)

-- the rule of a corner that has this cause
abbrev pub CornerRule : GameView → Notion → Corner → Cause → Type 0
CornerRule g notion corner Plan = All (AreReduced g) corner.pairs
CornerRule g notion corner Total = total (entries_of corner.pairs) ≡ corner.total
CornerRule g notion corner Width = Narrow (sum_of One g corner) × Narrow (sum_of Two g corner)
CornerRule g notion corner Point = IsPointIn g corner.point (sum_of One g corner) (sum_of Two g corner) corner.total
CornerRule g notion corner (Gain side) = NoneImproves notion side g no_slack (entries_of corner.pairs)
CornerRule g notion corner other = Unit {0}

abbrev pub corner_rules : List Cause
corner_rules = Plan ∷ Total ∷ Width ∷ Point ∷ Gain One ∷ Gain Two ∷ []
