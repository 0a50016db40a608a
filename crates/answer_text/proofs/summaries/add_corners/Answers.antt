-- The loop has added the items before this one.
use Rattle.std.proofs.Common.{arith}
use Rattle.report_text.proofs.Items.{Adds-item, Adds-all}
use Rattle.answer_text.specs.SummaryText.{corner_summary}
use Rattle.answer_text.proofs.summaries.add_corners.Goals as goal

pub loop-k-preserved : goal.loop-k-preserved
loop-k-preserved c = Adds-item (λ k. corner_summary) c.args.corners.now c.loop-k.k _ c.at.ensures.item c.loop-k.invariant c.in_ok-add_corner.ensures

pub returns : goal.returns
returns c = Adds-all (λ k. corner_summary) c.args.corners.now c.loop-k.k (omega arith) c.loop-k.invariant
