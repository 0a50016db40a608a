-- The line of a verdict on a report.
use Rattle.std.specs.Prelude.{ℕ, List, [], ◌++◌, codes}
use Rattle.std.specs.Fmt.{decimal}
use Rattle.corr_game.specs.declared.notions.Notion.{Notion}
use Rattle.report_form.specs.declared.verdicts.Cause.{Cause}
use Rattle.report_form.specs.declared.verdicts.Cause.TheVariants as cause
use Rattle.report_form.specs.declared.verdicts.Item.{Item}
use Rattle.report_form.specs.declared.verdicts.Item.TheVariants as item
use Rattle.report_form.specs.declared.verdicts.Verdict.{Verdict}
use Rattle.report_form.specs.declared.verdicts.Verdict.TheVariants.{Yes, Partial, NoScale, No}
use Rattle.report_form.specs.declared.reports.Block.{Block}
use Rattle.report_form.specs.declared.reports.Block.TheVariants.{Found, Empty, TooWide}
use Rattle.report_form.specs.declared.reports.NamedBlock.{NamedBlock}
use Rattle.report_text.specs.Joined.{each_text}
use Rattle.report_text.specs.NameText.{notion_name, player_name}

-- the rule that fails
unfoldable pub cause_text : Cause → List ℕ
cause_text cause.Plan = codes "Plan"
cause_text cause.Total = codes "Total"
cause_text cause.Width = codes "Width"
cause_text cause.Point = codes "Point"
cause_text (cause.Gain side) = codes "Gain player " ++ player_name side
cause_text cause.Belt = codes "Belt"
cause_text cause.Length = codes "Length"
cause_text cause.Sign = codes "Sign"

-- where it fails, and which one; at the belt there is but one
unfoldable pub item_text : Item → Cause → List ℕ
item_text (item.Corner k) broken = codes "corner " ++ decimal k ++ codes " " ++ cause_text broken
item_text (item.Belt side) broken = codes "belt " ++ decimal side
item_text (item.Side k) broken = codes "side " ++ decimal k ++ codes " " ++ cause_text broken
item_text item.Multipliers broken = codes "multipliers " ++ cause_text broken

-- the name of a notion whose tableau is too wide, behind a space
unfoldable pub name_if_wide : Notion → Block → List ℕ
name_if_wide notion (Found corners sides) = []
name_if_wide notion (Empty multipliers) = []
name_if_wide notion (TooWide basis place) = codes " " ++ notion_name notion

abbrev pub wide_name : NamedBlock → List ℕ
wide_name named = name_if_wide named.notion named.block

-- the line, on a report with these blocks
unfoldable pub verdict_text : Verdict → List NamedBlock → List ℕ
verdict_text Yes blocks = codes "yes\n"
verdict_text Partial blocks = codes "partial" ++ each_text wide_name blocks ++ codes "\n"
verdict_text NoScale blocks = codes "no scale\n"
verdict_text (No notion at broken) blocks = codes "no " ++ notion_name notion ++ codes " " ++ item_text at broken ++ codes "\n"
