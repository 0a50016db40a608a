-- Each piece stands behind the ones before it.
use Rattle.text_pieces.proofs.Pieces.{Adds-join}
use Rattle.report_text.specs.RefusalText.{cause_text}
use Rattle.report_text.proofs.refusals.add_triangle.Goals as goal

pub returns : goal.returns
unfolding cause_text
returns c =
    Adds-join (Adds-join (Adds-join (Adds-join c.in_ok-add_bytes.ensures.ok c.in_ok-add_spaced.ensures.ok) c.in_ok-add_spaced-2.ensures.ok) c.in_ok-add_spaced-3.ensures.ok) c.in_ok-add_spaced-4.ensures.ok
