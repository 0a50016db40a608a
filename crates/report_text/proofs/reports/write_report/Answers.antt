-- Each piece stands behind the ones before it; what the report hands out is what it holds.
use Rattle.std.proofs.Common.{sym}
use Rattle.text_pieces.proofs.Pieces.{Adds-first, Adds-join}
use Rattle.report_text.specs.ReportText.{report_text}
use Rattle.report_text.proofs.reports.write_report.Goals as goal

pub returns : goal.returns
unfolding report_text
returns c =
    rw (sym c.scale.ensures.scale, sym c.scale-2.ensures.scale, sym c.blocks-2.ensures.blocks)
    (Adds-first c.new-out.ensures.items (Adds-join (Adds-join (Adds-join (Adds-join (Adds-join c.in_ok-add_bytes.ensures.ok c.in_ok-add_spaced.ensures.ok) c.in_ok-add_spaced-2.ensures.ok) c.in_ok-add_bytes-2.ensures.ok) c.in_ok-add_blocks.ensures) c.in_ok-add_bytes-3.ensures.ok))
