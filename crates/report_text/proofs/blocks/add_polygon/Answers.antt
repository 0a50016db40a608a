-- Each piece stands behind the ones before it.
use Rattle.text_pieces.proofs.Pieces.{Adds-join}
use Rattle.report_text.specs.ReportText.{block_text}
use Rattle.report_text.proofs.blocks.add_polygon.Goals as goal

pub returns : goal.returns
unfolding block_text
returns c =
    let corners = rw c.len.ensures.count at c.in_ok-add_spaced.ensures.ok in
    let sides = rw c.len-2.ensures.count at c.in_ok-add_spaced-2.ensures.ok in
    Adds-join (Adds-join (Adds-join (Adds-join (Adds-join (Adds-join (Adds-join c.in_ok-add_bytes.ensures.ok corners) c.in_ok-add_bytes-2.ensures.ok) c.in_ok-add_corners.ensures) c.in_ok-add_bytes-3.ensures.ok) sides) c.in_ok-add_bytes-4.ensures.ok) c.in_ok-add_sides.ensures
