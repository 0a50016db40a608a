-- How a report and a refusal's line name things.
use Rattle.std.specs.Prelude.{ℕ, List, codes}
use Rattle.corr_game.specs.declared.notions.Notion.{Notion}
use Rattle.corr_game.specs.declared.notions.Notion.TheVariants.{Efce, Efcce, Nfcce}
use Rattle.corr_game.specs.declared.sides.Side.{Side}
use Rattle.corr_game.specs.declared.sides.Side.TheVariants.{One, Two}
use Rattle.report_form.specs.declared.refusals.NodeRule.{NodeRule}
use Rattle.report_form.specs.declared.refusals.NodeRule.TheVariants.{ExtraNode, TooManyNodes, TooDeep, NumberTooWide, PlayerUnknown, NoActions, TooManyActions, ChanceNegative, ChanceTooFine, ChanceSum, SetUnknown, SetDiffers, PayoffCount, OutcomeUnknown, OutcomeDiffers, MissingNode, PathTooFine, AmountTooLarge}

unfoldable pub notion_name : Notion → List ℕ
notion_name Efce = codes "efce"
notion_name Efcce = codes "efcce"
notion_name Nfcce = codes "nfcce"

unfoldable pub player_name : Side → List ℕ
player_name One = codes "1"
player_name Two = codes "2"

unfoldable pub rule_name : NodeRule → List ℕ
rule_name ExtraNode = codes "ExtraNode"
rule_name TooManyNodes = codes "TooManyNodes"
rule_name TooDeep = codes "TooDeep"
rule_name NumberTooWide = codes "NumberTooWide"
rule_name PlayerUnknown = codes "PlayerUnknown"
rule_name NoActions = codes "NoActions"
rule_name TooManyActions = codes "TooManyActions"
rule_name ChanceNegative = codes "ChanceNegative"
rule_name ChanceTooFine = codes "ChanceTooFine"
rule_name ChanceSum = codes "ChanceSum"
rule_name SetUnknown = codes "SetUnknown"
rule_name SetDiffers = codes "SetDiffers"
rule_name PayoffCount = codes "PayoffCount"
rule_name OutcomeUnknown = codes "OutcomeUnknown"
rule_name OutcomeDiffers = codes "OutcomeDiffers"
rule_name MissingNode = codes "MissingNode"
rule_name PathTooFine = codes "PathTooFine"
rule_name AmountTooLarge = codes "AmountTooLarge"
