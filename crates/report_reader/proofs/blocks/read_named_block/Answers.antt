-- The space behind the notion's name goes with the block.
use Rattle.std.proofs.Common.{◌++◌, codes}
use Rattle.report_text.specs.NameText.{notion_name}
use Rattle.report_text.specs.ReportText.{named_block_text}
use Rattle.report_reader.proofs.Reading.{Reads-behind, Reads-front, Reads-join}
use Rattle.report_reader.proofs.blocks.read_named_block.Goals as goal

pub returns-clause-text : goal.returns-clause-text
unfolding named_block_text
returns-clause-text c =
    let name = codes " " ++ notion_name c.in_ok-notion.notion in
    let head = Reads-join (Reads-join c.in_ok-expect.ensures.text c.in_ok-notion.ensures.text) c.in_ok-expect-2.ensures.text in
    Reads-behind (codes "notion") (Reads-front name (codes " ") head c.in_ok-block.ensures.text)
