-- The loop has added the items before this one.
use Rattle.std.proofs.Common.{arith}
use Rattle.report_text.specs.PartText.{pair_text}
use Rattle.report_text.proofs.Items.{Adds-item, Adds-all}
use Rattle.report_text.proofs.blocks.add_pairs.Goals as goal

pub loop-k-preserved : goal.loop-k-preserved
loop-k-preserved c = Adds-item (λ k. pair_text) c.args.pairs.now c.loop-k.k _ c.at.ensures.item c.loop-k.invariant c.in_ok-add_pair.ensures.ok

pub returns : goal.returns
returns c = Adds-all (λ k. pair_text) c.args.pairs.now c.loop-k.k (omega arith) c.loop-k.invariant
