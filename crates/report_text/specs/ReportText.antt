-- The text of a report in the first format.
use Rattle.std.specs.Prelude.{ℕ, List, ◌++◌, length, codes}
use Rattle.report_form.specs.declared.reports.Corner.{Corner}
use Rattle.report_form.specs.declared.reports.Block.{Block}
use Rattle.report_form.specs.declared.reports.Block.TheVariants.{Found, Empty, TooWide}
use Rattle.report_form.specs.declared.reports.NamedBlock.{NamedBlock}
use Rattle.report_form.specs.View.{ReportView}
use Rattle.report_text.specs.Joined.{texts_from, each_text}
use Rattle.report_text.specs.NameText.{notion_name}
use Rattle.report_text.specs.PartText.{int_text, count_text, frac_text, pair_text, side_text, multipliers_text, place_text}

-- a corner's number, its point and the total of the weights
unfoldable pub corner_line : ℕ → Corner → List ℕ
corner_line k corner = codes "corner" ++ count_text k ++ codes " " ++ frac_text corner.point.one ++ codes " "
    ++ frac_text corner.point.two ++ codes " total" ++ int_text corner.total

-- a corner with the pairs of its distribution
unfoldable pub corner_text : ℕ → Corner → List ℕ
corner_text k corner = corner_line k corner ++ codes " pairs" ++ count_text (length corner.pairs) ++ codes "\n"
    ++ each_text pair_text corner.pairs

-- what a block says behind the notion's name
unfoldable pub block_text : Block → List ℕ
block_text (Found corners sides) = codes " found\ncorners" ++ count_text (length corners) ++ codes "\n"
    ++ texts_from corner_text 0 corners ++ codes "sides" ++ count_text (length sides) ++ codes "\n" ++ each_text side_text sides
block_text (Empty multipliers) = codes " empty\n" ++ multipliers_text multipliers
block_text (TooWide basis place) = codes " toowide\n" ++ place_text basis place

unfoldable pub named_block_text : NamedBlock → List ℕ
named_block_text named = codes "notion " ++ notion_name named.notion ++ block_text named.block

unfoldable pub report_text : ReportView → List ℕ
report_text report = codes "corr-report 1\nscale" ++ int_text report.scale_one ++ int_text report.scale_two ++ codes "\n"
    ++ each_text named_block_text report.blocks ++ codes "end\n"
