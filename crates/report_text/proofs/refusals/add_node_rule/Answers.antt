-- Each piece stands behind the ones before it.
use Rattle.text_pieces.proofs.Pieces.{Adds-join}
use Rattle.report_text.specs.RefusalText.{cause_text}
use Rattle.report_text.proofs.refusals.add_node_rule.Goals as goal

pub returns : goal.returns
unfolding cause_text
returns c =
    let name = rw c.rule.ensures at c.in_ok-add_bytes.ensures.ok in
    Adds-join (Adds-join name c.in_ok-add_bytes-2.ensures.ok) c.in_ok-add_spaced.ensures.ok
