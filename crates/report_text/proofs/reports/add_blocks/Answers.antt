-- The loop has added the items before this one.
use Rattle.std.proofs.Common.{arith}
use Rattle.report_text.specs.ReportText.{named_block_text}
use Rattle.report_text.proofs.Items.{Adds-item, Adds-all}
use Rattle.report_text.proofs.reports.add_blocks.Goals as goal

pub loop-k-preserved : goal.loop-k-preserved
loop-k-preserved c = Adds-item (λ k. named_block_text) c.args.blocks.now c.loop-k.k _ c.at.ensures.item c.loop-k.invariant c.in_ok-add_named_block.ensures

pub returns : goal.returns
returns c = Adds-all (λ k. named_block_text) c.args.blocks.now c.loop-k.k (omega arith) c.loop-k.invariant
