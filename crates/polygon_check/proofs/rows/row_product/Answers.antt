-- An entry's column has a number, and its product fits.
use Rattle.std.proofs.Common.{◌≡◌, suc, ◌+◌, ◌^◌, ◌<◌, get_or, ℤ, pos, unsigned_abs, ap, ◌∙◌, arith}
use Rattle.corr_num.specs.Narrow.{Narrow}
use Rattle.lp_form.proofs.Placing.{few_entries}
use Rattle.lp_form.specs.declared.entries.Entry.{Entry}
use Rattle.column_sums.proofs.RestOfRow.{Met, met}
use Rattle.polygon_check.proofs.RowSums.{all_added, entries_sum, entries_sum-all, entries_sum-drop, entries_sum-end, next_passed, next_size, next_value}
use Rattle.polygon_check.proofs.rows.row_product.Goals as goal

pub at-requires : goal.at-requires
at-requires c =
    let d : Entry = record { col = 0; value = pos 0 } in
    let here = met c.requires.row.0 0 c.loop-entry.entry-index c.args.entries.now d c.requires.row.3 c.loop-entry-test.true in
    omega (arith, here.inside, c.requires.row.2)

pub with_term-total-requires-clause-total : goal.with_term-total-requires-clause-total
with_term-total-requires-clause-total c =
    let few = few_entries c.args.entries.now 0 c.requires.row.0 (omega arith) c.requires.row.3 in
    omega (arith, few, c.requires.row.1, c.loop-entry-test.true, c.loop-entry.invariant.size)

pub loop-entry-preserved : goal.loop-entry-preserved
loop-entry-preserved c =
    let d : Entry = record { col = 0; value = pos 0 } in
    let i = c.loop-entry.entry-index in
    let entries = c.args.entries.now in
    let values = c.args.values.now in
    let entry = get_or entries i d in
    let x = get_or values entry.col (pos 0) in
    let here : Met c.requires.row.0 0 i entries entry = met c.requires.row.0 0 i entries d c.requires.row.3 c.loop-entry-test.true in
    let few = few_entries entries 0 c.requires.row.0 (omega arith) c.requires.row.3 in
    let size = ap (λ (z : ℤ). unsigned_abs z) here.value in
    let small : unsigned_abs entry.value < 2 ^ 51 = omega (arith, size, c.requires.small entry.col) in
    let narrow : Narrow x = c.requires.narrow entry.col (pos 0) (omega (arith, here.inside, c.requires.row.2)) in
    let passed = next_passed c.with_term-total.result _ entry.value x i (omega (arith, few, c.requires.row.1, c.loop-entry-test.true)) c.loop-entry.invariant.size small narrow here.word (rw c.at.ensures.item at c.with_term-total.ensures) in
    let next : i + 1 ≡ suc i = omega arith in
    record {
      size = rw passed (next_size _ entry.value x i c.loop-entry.invariant.size small narrow);
      value = rw (passed, next) (next_value _ entry.value x _ _ _ c.loop-entry.invariant.value (entries_sum-drop entries values i d c.loop-entry-test.true));
    }

pub returns-clause-bound : goal.returns-clause-bound
returns-clause-bound c =
    let few = few_entries c.args.entries.now 0 c.requires.row.0 (omega arith) c.requires.row.3 in
    omega (arith, few, c.requires.row.1, c.loop-entry.auto.entry-index-end, c.loop-entry.invariant.size)

pub returns-clause-product : goal.returns-clause-product
returns-clause-product c = λ cols row.
    let entries = c.args.entries.now in
    let values = c.args.values.now in
    all_added _ _ (entries_sum entries values) c.loop-entry.invariant.value (entries_sum-end entries values c.loop-entry.entry-index (omega arith))
    ∙ entries_sum-all entries values 0 cols row
