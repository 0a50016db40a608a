-- Each piece stands behind the ones before it.
use Rattle.text_pieces.proofs.Pieces.{Adds-join}
use Rattle.report_text.specs.ReportText.{corner_text}
use Rattle.report_text.proofs.blocks.add_corner.Goals as goal

pub returns : goal.returns
unfolding corner_text
returns c =
    let count = rw c.len.ensures.count at c.in_ok-add_spaced.ensures.ok in
    Adds-join (Adds-join (Adds-join (Adds-join c.in_ok-add_corner_line.ensures c.in_ok-add_bytes.ensures.ok) count) c.in_ok-add_bytes-2.ensures.ok) c.in_ok-add_pairs.ensures
