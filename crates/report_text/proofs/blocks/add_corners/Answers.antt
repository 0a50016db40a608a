-- The loop has added the items before this one.
use Rattle.std.proofs.Common.{arith}
use Rattle.report_text.specs.ReportText.{corner_text}
use Rattle.report_text.proofs.Items.{Adds-item, Adds-all}
use Rattle.report_text.proofs.blocks.add_corners.Goals as goal

pub loop-k-preserved : goal.loop-k-preserved
loop-k-preserved c = Adds-item corner_text c.args.corners.now c.loop-k.k _ c.at.ensures.item c.loop-k.invariant c.in_ok-add_corner.ensures

pub returns : goal.returns
returns c = Adds-all corner_text c.args.corners.now c.loop-k.k (omega arith) c.loop-k.invariant
