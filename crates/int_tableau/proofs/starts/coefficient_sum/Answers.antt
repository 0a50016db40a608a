-- One more number of 64 bits is added, and the sum stays far below 2^126.
use Rattle.std.proofs.Common.{FitsSigned, sym, rules, arith}
use Rattle.std.specs.Int.{w64}
use Rattle.exact_algebra.proofs.Sums.{sum_to-zero}
use Rattle.corr_num.proofs.PrintedTerms.{word_passed}
use Rattle.int_tableau.proofs.PartialSums.{one_more}
use Rattle.int_tableau.proofs.starts.coefficient_sum.Goals as goal

pub loop-row-init : goal.loop-row-init
loop-row-init c = record { value = sym (sum_to-zero _); bound = omega arith }

pub loop-row-preserved : goal.loop-row-preserved
loop-row-preserved c =
    let fits : FitsSigned w64 c.coef.result = search rules in
    let passed = word_passed c.from.result c.coef.result fits c.from.ensures in
    let added = rw passed at c.sum-total.ensures in
    one_more _ c.loop-row.row _ c.coef.result c.sum-total.result (omega (arith, c.rows-row-end.ensures.rules.few_rows)) c.loop-row.invariant fits c.coef.ensures.value added
