-- One more term is added, and the sum stays within 2^126.
use Rattle.std.proofs.Common.{arith}
use Rattle.plain_programs.proofs.RunningSums.{all_terms, no_term, one_more}
use Rattle.plain_programs.proofs.solutions.row_product.Goals as goal

pub loop-col-init : goal.loop-col-init
loop-col-init c = no_term _ _

pub sum-total-requires-clause-left : goal.sum-total-requires-clause-left
sum-total-requires-clause-left c = omega (arith, c.loop-col.invariant.bound)

pub loop-col-preserved : goal.loop-col-preserved
loop-col-preserved c = one_more _ _ c.loop-col.col _ c.term.result c.sum-total.result
    (omega arith) c.loop-col.invariant c.term.ensures.bound c.term.ensures.value c.sum-total.ensures

pub returns : goal.returns
returns c = all_terms _ c.loop-col.invariant (omega arith)
