-- One row more is added to each column's product.
use Rattle.std.proofs.Common.{◌+◌, ◌*◌, ◌*ℤ◌, refl, pos, ◌∙◌, get_or, arith}
use Rattle.std.proofs.lemmas.Int.{ints}
use Rattle.corr_num.proofs.PrintedTerms.{narrow_returned}
use Rattle.corr_num.specs.Narrow.{Narrow}
use Rattle.lp_form.specs.Program.{coefficient}
use Rattle.column_sums.specs.Products.{product_to}
use Rattle.column_sums.proofs.ColumnSums.{one_more, product_bound, product_more, product_none, steps_left, sum_bound}
use Rattle.column_sums.proofs.rows.add_rows.Goals as goal

pub loop-row-init : goal.loop-row-init
loop-row-init c = record { count = refl; value = λ k. omega (arith, ints, product_none c.args.first k c.args.list.now c.args.lp.now) }

pub overflow_add-first : goal.overflow_add-first
overflow_add-first c = omega (arith, c.requires.few, c.rows-row-end.ensures.rules.few_rows, c.rows-row-end.ensures.count, c.loop-row-test.true)

pub add_row-requires-clause-room : goal.add_row-requires-clause-room
add_row-requires-clause-room c =
    let room = c.requires.room in
    let row = c.loop-row.row in (
      room.0 + row * room.1,
      room.1,
      λ k. sum_bound (get_or c.loop-row.sums.items k (pos 0)) (get_or c.args.sums.now.items k (pos 0)) (product_to row c.args.list.now c.args.first c.args.lp.now k) room.0 (row * room.1) (c.loop-row.invariant.value k) (room.2 k) (product_bound row c.args.first room.1 k c.args.list.now c.args.lp.now c.requires.narrow (omega (arith, c.requires.multipliers, c.loop-row-test.true, c.rows-row-end.ensures.count)) room.3),
      λ k. rw c.row.ensures.entries (room.3 row k),
      steps_left room.0 row _ room.1 (omega (arith, c.loop-row-test.true, c.rows-row-end.ensures.count)) room.4,
    )

pub loop-row-preserved : goal.loop-row-preserved
loop-row-preserved c =
    let row = c.loop-row.row in
    let ys = c.args.list.now in
    let here = c.args.first + row in
    let narrow : Narrow c.at.result.now = rw c.at.ensures.item (c.requires.narrow here (pos 0) (omega (arith, c.requires.multipliers, c.loop-row-test.true, c.rows-row-end.ensures.count))) in
    record {
      count = c.add_row.ensures.count ∙ c.loop-row.invariant.count;
      value = λ k.
          let added = rw (narrow_returned c.at.result.now narrow, c.at.ensures.item, c.row.ensures.entries) at c.add_row.ensures.value k in
          one_more (get_or c.loop-row.sums.items k (pos 0)) (get_or c.add_row.new.sums.items k (pos 0)) (get_or c.args.sums.now.items k (pos 0)) (product_to row ys c.args.first c.args.lp.now k)
          (get_or ys here (pos 0) *ℤ coefficient c.args.lp.now row k) (product_to (row + 1) ys c.args.first c.args.lp.now k)
          added (c.loop-row.invariant.value k) (product_more row c.args.first k ys c.args.lp.now);
    }
