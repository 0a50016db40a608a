-- What the rest of the row adds to the sums so far is what the whole row adds to those before.
use Rattle.std.proofs.Common.{◌≡◌, ℕ, drop, length, get_or, pos, ◌+ℤ◌, ◌*ℤ◌}
use Rattle.lp_form.specs.Row.{value_at}
use Rattle.column_sums.proofs.rows.add_row.Given as goal

abbrev pub invariant-loop-entry : goal.invariant-loop-entry
invariant-loop-entry l = record {
  count : length l.sums.items ≡ length l.initial.sums.items;
  value : (k : ℕ) → get_or l.sums.items k (pos 0) +ℤ l.factor *ℤ value_at (drop l.entry-index l.entries) k ≡ get_or l.initial.sums.items k (pos 0) +ℤ l.factor *ℤ value_at l.entries k;
}
