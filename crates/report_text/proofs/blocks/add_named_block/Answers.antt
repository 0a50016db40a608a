-- Each piece stands behind the ones before it.
use Rattle.text_pieces.proofs.Pieces.{Adds-join}
use Rattle.report_text.specs.ReportText.{named_block_text}
use Rattle.report_text.proofs.blocks.add_named_block.Goals as goal

pub returns : goal.returns
unfolding named_block_text
returns c =
    let name = rw c.name_of.ensures at c.in_ok-add_bytes-2.ensures.ok in
    Adds-join (Adds-join c.in_ok-add_bytes.ensures.ok name) c.in_ok-add_block.ensures
