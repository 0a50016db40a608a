-- Each piece stands behind the ones before it.
use Rattle.text_pieces.proofs.Pieces.{Adds-join}
use Rattle.report_text.specs.ReportText.{corner_line}
use Rattle.report_text.proofs.blocks.add_corner_line.Goals as goal

pub returns : goal.returns
unfolding corner_line
returns c =
    Adds-join (Adds-join (Adds-join (Adds-join (Adds-join (Adds-join (Adds-join c.in_ok-add_bytes.ensures.ok c.in_ok-add_spaced.ensures.ok) c.in_ok-add_bytes-2.ensures.ok) c.in_ok-add_frac.ensures.ok) c.in_ok-add_bytes-3.ensures.ok) c.in_ok-add_frac-2.ensures.ok) c.in_ok-add_bytes-4.ensures.ok) c.in_ok-add_spaced-2.ensures.ok
