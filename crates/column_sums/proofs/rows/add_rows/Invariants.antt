-- The sums have the products with the rows gone over.
use Rattle.std.proofs.Common.{◌≡◌, ℕ, length, get_or, pos, ◌+ℤ◌}
use Rattle.column_sums.specs.Products.{product_to}
use Rattle.column_sums.proofs.rows.add_rows.Given as goal

abbrev pub invariant-loop-row : goal.invariant-loop-row
invariant-loop-row l = record {
  count : length l.sums.items ≡ length l.initial.sums.items;
  value : (k : ℕ) → get_or l.sums.items k (pos 0) ≡ get_or l.initial.sums.items k (pos 0) +ℤ product_to l.row l.list l.first l.lp k;
}
