-- Each piece stands behind the ones before it.
use Rattle.text_pieces.proofs.Pieces.{Adds-join}
use Rattle.report_text.specs.RefusalText.{cause_text}
use Rattle.report_text.proofs.refusals.add_scale.Goals as goal

pub returns : goal.returns
unfolding cause_text
returns c =
    let name = rw c.player.ensures at c.in_ok-add_bytes-2.ensures.ok in
    Adds-join c.in_ok-add_bytes.ensures.ok name
