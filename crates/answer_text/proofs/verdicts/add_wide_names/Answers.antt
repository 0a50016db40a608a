-- The loop has added the items before this one.
use Rattle.std.proofs.Common.{arith}
use Rattle.report_text.proofs.Items.{Adds-item, Adds-all}
use Rattle.answer_text.specs.VerdictText.{wide_name}
use Rattle.answer_text.proofs.verdicts.add_wide_names.Goals as goal

pub loop-k-preserved : goal.loop-k-preserved
loop-k-preserved c = Adds-item (λ k. wide_name) c.args.blocks.now c.loop-k.k _ c.at.ensures.item c.loop-k.invariant c.in_ok-add_wide_name.ensures

pub returns : goal.returns
returns c = Adds-all (λ k. wide_name) c.args.blocks.now c.loop-k.k (omega arith) c.loop-k.invariant
