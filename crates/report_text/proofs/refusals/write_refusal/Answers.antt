-- Each piece stands behind the ones before it.
use Rattle.text_pieces.proofs.Pieces.{Adds-first, Adds-join}
use Rattle.report_text.specs.RefusalText.{refusal_text}
use Rattle.report_text.proofs.refusals.write_refusal.Goals as goal

pub returns : goal.returns
unfolding refusal_text
returns c =
    Adds-first c.new-out.ensures.items (Adds-join (Adds-join c.in_ok-add_bytes.ensures.ok c.in_ok-add_cause.ensures) c.in_ok-add_bytes-2.ensures.ok)
