-- A column's entry is met once, at a sum that is as it was before.
use Rattle.std.proofs.Common.{◌≡◌, suc, ◌+◌, ◌^◌, ◌<◌, ◌≤◌, length, get_or, ℤ, pos, ◌+ℤ◌, ◌*ℤ◌, unsigned_abs, to_z, of_z, inl, inr, ap, ◌∙◌, arith}
use Rattle.std.specs.Int.{w128}
use Rattle.std.proofs.lemmas.Bool.{cases_eq}
use Rattle.std.proofs.lemmas.Int.{ints}
use Rattle.std.proofs.lemmas.List.{get_or-set_same, get_or-set_other}
use Rattle.corr_num.proofs.PrintedTerms.{narrow_returned, word_passed}
use Rattle.lp_form.specs.declared.entries.Entry.{Entry}
use Rattle.column_sums.proofs.RestOfRow.{all_moved, entry_passed, get_default, met, moved, none_left, unmoved}
use Rattle.column_sums.proofs.ProductSizes.{put_length, size_passed}
use Rattle.column_sums.proofs.rows.add_row.Goals as goal

pub index-requires : goal.index-requires
index-requires c =
    let d : Entry = record { col = 0; value = pos 0 } in
    let row = met c.requires.row.0 0 c.loop-entry.entry-index c.args.entries.now d c.requires.row.2 c.loop-entry-test.true in
    omega (arith, row.inside, c.requires.row.1, c.loop-entry.invariant.count, c.loop-entry.sums.ok.0)

pub plus_product-requires-clause-before : goal.plus_product-requires-clause-before
plus_product-requires-clause-before c =
    let d : Entry = record { col = 0; value = pos 0 } in
    let entry = get_or c.args.entries.now c.loop-entry.entry-index d in
    let row = met c.requires.row.0 0 c.loop-entry.entry-index c.args.entries.now d c.requires.row.2 c.loop-entry-test.true in
    let low : entry.col < length c.loop-entry.sums.items = omega (arith, row.inside, c.requires.row.1, c.loop-entry.invariant.count) in
    let here = get_default c.loop-entry.sums.items entry.col c.index.result.now low c.index.ensures in
    let before = unmoved _ _ (to_z w128 (of_z w128 c.args.factor)) _ _ entry.value (c.loop-entry.invariant.value entry.col) row.ahead row.value in
    size_passed c.index.result.now (2 ^ 125) (omega (arith, ints, here, before, c.requires.room.2 entry.col, c.requires.room.4)) (omega arith)

pub plus_product-requires-clause-number : goal.plus_product-requires-clause-number
plus_product-requires-clause-number c =
    let d : Entry = record { col = 0; value = pos 0 } in
    let entry = get_or c.args.entries.now c.loop-entry.entry-index d in
    let row = met c.requires.row.0 0 c.loop-entry.entry-index c.args.entries.now d c.requires.row.2 c.loop-entry-test.true in
    let step = c.requires.room.3 entry.col in
    let size = ap (λ (z : ℤ). unsigned_abs z) row.value in
    rw (word_passed c.from.result entry.value row.word c.from.ensures) (omega (arith, step, size, c.requires.room.4))

pub index_mut-requires : goal.index_mut-requires
index_mut-requires c =
    let d : Entry = record { col = 0; value = pos 0 } in
    let row = met c.requires.row.0 0 c.loop-entry.entry-index c.args.entries.now d c.requires.row.2 c.loop-entry-test.true in
    omega (arith, row.inside, c.requires.row.1, c.loop-entry.invariant.count, c.loop-entry.sums.ok.0)

pub loop-entry-preserved : goal.loop-entry-preserved
loop-entry-preserved c =
    let d : Entry = record { col = 0; value = pos 0 } in
    let i = c.loop-entry.entry-index in
    let sums = c.loop-entry.sums.items in
    let entry = get_or c.args.entries.now i d in
    let row = met c.requires.row.0 0 i c.args.entries.now d c.requires.row.2 c.loop-entry-test.true in
    let low : entry.col < length sums = omega (arith, row.inside, c.requires.row.1, c.loop-entry.invariant.count) in
    let here = get_default sums entry.col c.index.result.now low c.index.ensures in
    let before = unmoved _ _ (to_z w128 (of_z w128 c.args.factor)) _ _ entry.value (c.loop-entry.invariant.value entry.col) row.ahead row.value in
    let step = c.requires.room.3 entry.col in
    let size = ap (λ (z : ℤ). unsigned_abs z) row.value in
    let small : unsigned_abs c.index.result.now ≤ 2 ^ 125 = omega (arith, ints, here, before, c.requires.room.2 entry.col, c.requires.room.4) in
    let v = to_z w128 (of_z w128 c.plus_product.result) in
    let passed : v ≡ c.index.result.now +ℤ to_z w128 (of_z w128 c.args.factor) *ℤ entry.value =
    rw (narrow_returned c.args.factor c.requires.factor) (entry_passed c.plus_product.result c.index.result.now c.args.factor c.from.result entry.value small c.requires.factor (omega (arith, step, size, c.requires.room.4)) row.word c.from.ensures c.plus_product.ensures.value) in
    let next : i + 1 ≡ suc i = omega arith in
    let moves = moved _ _ (to_z w128 (of_z w128 c.args.factor)) _ _ c.index.result.now entry.value (c.loop-entry.invariant.value entry.col) row.ahead here in
    record {
      count = put_length sums entry.col v ∙ c.loop-entry.invariant.count;
      value = λ k. elim (cases_eq k entry.col) [
        | inl same ↦ rw (same, get_or-set_same sums entry.col v (pos 0) low, next, row.rest, passed) moves
        | inr apart ↦ rw (get_or-set_other sums entry.col k v (pos 0) apart, next, ← row.other k apart) (c.loop-entry.invariant.value k)
      ];
    }

pub returns-clause-value : goal.returns-clause-value
returns-clause-value c = λ k.
    let done = all_moved _ _ (to_z w128 (of_z w128 c.args.factor)) _ _ (c.loop-entry.invariant.value k) (none_left c.loop-entry.entry-index c.args.entries.now k (omega arith)) in
    rw (narrow_returned c.args.factor c.requires.factor) at done
