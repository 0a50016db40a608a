-- Each piece stands behind the ones before it.
use Rattle.text_pieces.proofs.Pieces.{Adds-join}
use Rattle.report_text.specs.PartText.{behind_space}
use Rattle.report_text.proofs.refusals.add_counted.Goals as goal

pub returns : goal.returns
unfolding behind_space
returns c =
    Adds-join c.in_ok-add_bytes.ensures.ok c.in_ok-add_spaced.ensures.ok
