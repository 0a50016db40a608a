-- One more term is added, and the sum stays within 2^58.
use Rattle.std.proofs.Common.{arith}
use Rattle.plain_programs.proofs.RunningSums.{all_terms, no_term, one_more}
use Rattle.plain_programs.proofs.certificates.column_product.Goals as goal

pub loop-row-init : goal.loop-row-init
loop-row-init c = no_term _ _

pub sum-total-requires-clause-left : goal.sum-total-requires-clause-left
sum-total-requires-clause-left c = omega (arith, c.loop-row.invariant.bound, c.requires.moderate.few)

pub loop-row-preserved : goal.loop-row-preserved
loop-row-preserved c = one_more _ _ c.loop-row.row _ c.row_term.result c.sum-total.result
    (omega (arith, c.requires.moderate.few)) c.loop-row.invariant c.row_term.ensures.bound c.row_term.ensures.value c.sum-total.ensures

pub returns-clause-value : goal.returns-clause-value
returns-clause-value c = all_terms _ c.loop-row.invariant (omega arith)

pub returns-clause-bound : goal.returns-clause-bound
returns-clause-bound c = omega (arith, c.loop-row.invariant.bound, c.requires.moderate.few)
