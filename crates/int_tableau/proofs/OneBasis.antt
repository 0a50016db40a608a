-- Two tableaus of one start and one basis are equal up to the order of rows. By the same of whole tableaus.
use Rattle.std.proofs.Common.{ℕ, ℤ, arith}
use Rattle.exact_linear.proofs.WholeTableaus.{same_denominator, same_row, same_cost_row}
use Rattle.int_tableau.specs.Content.{Content}
use Rattle.int_tableau.specs.Reached.{IsReachedFrom, HaveOneBasis, IsSameButForOrder}

second_sized : (start : ℕ → ℕ → ℤ) (t u : Content) → HaveOneBasis start t u → IsReachedFrom start record { rows = t.rows; cols = t.cols; entry = u.entry; basic = u.basic; denom = u.denom; spent = u.spent }
second_sized start t u h = rw (← h.rows, ← h.cols) h.second

pub one_tableau : (start : ℕ → ℕ → ℤ) (t u : Content) → HaveOneBasis start t u → IsSameButForOrder t u
one_tableau start t u h =
    let second = second_sized start t u h in
    record {
      denom = same_denominator h.first second h.same;
      program_rows = λ k l j in_k in_l in_columns e. same_row h.first second h.same k l j (omega arith) (omega arith) in_columns e;
      cost_rows = λ i j low high in_columns. same_cost_row h.first second h.same i j (omega arith) high in_columns;
    }
