-- What the rest of the row adds to the sum is what the whole row comes to, and no entry adds as much as 2^113.
use Rattle.std.proofs.Common.{◌≡◌, ◌+◌, ◌*◌, ◌^◌, ◌≤◌, drop, unsigned_abs, ◌+ℤ◌}
use Rattle.polygon_check.proofs.RowSums.{entries_sum}
use Rattle.polygon_check.proofs.rows.row_product.Given as goal

abbrev pub invariant-loop-entry : goal.invariant-loop-entry
invariant-loop-entry l = record {
  size : unsigned_abs l.total + l.entry-index ≤ l.entry-index * 2 ^ 113;
  value : l.total +ℤ entries_sum (drop l.entry-index l.entries) l.values ≡ entries_sum l.entries l.values;
}
