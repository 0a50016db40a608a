-- Up to 2048 rows add 2^113 each.
use Rattle.std.proofs.Common.{rules, ◌^◌, ◌*◌, length, get_or, pos, arith}
use Rattle.column_sums.specs.Products.{product_to}
use Rattle.column_sums.proofs.ColumnSums.{added_to_zero, product_bound, products_of_all, sum_bound, zero_at}
use Rattle.column_sums.proofs.columns.column_products.Goals as goal

pub add_rows-requires-clause-room : goal.add_rows-requires-clause-room
add_rows-requires-clause-room c =
    (0, 2 ^ 113, λ k. zero_at _ _ k (c.in_ok-sums.ensures.items_if_clones_equal (λ y h. search rules)), λ r k. omega (arith, c.requires.small.coefficients r k), omega (arith, c.requires.few))

pub returns-clause-bound : goal.returns-clause-bound
returns-clause-bound c = λ k.
    let lp = c.args.lp.now in
    let ys = c.args.list.now in
    let zeros = c.in_ok-sums.ensures.items_if_clones_equal (λ y h. search rules) in
    let all = sum_bound (get_or c.add_rows.new.sums.items k (pos 0)) (get_or c.in_ok-sums.sums.items k (pos 0)) (product_to (length lp.rows) ys 0 lp k) 0 (length lp.rows * 2 ^ 113)
    (c.add_rows.ensures.value k) (zero_at _ _ k zeros)
    (product_bound (length lp.rows) 0 (2 ^ 113) k ys lp c.requires.narrow (omega (arith, c.requires.per_row)) (λ r j. omega (arith, c.requires.small.coefficients r j))) in
    omega (arith, all, c.requires.few)

pub returns-clause-products : goal.returns-clause-products
returns-clause-products c = λ k.
    let lp = c.args.lp.now in
    let ys = c.args.list.now in
    let zeros = c.in_ok-sums.ensures.items_if_clones_equal (λ y h. search rules) in
    added_to_zero (get_or c.add_rows.new.sums.items k (pos 0)) (get_or c.in_ok-sums.sums.items k (pos 0)) (product_to (length lp.rows) ys 0 lp k) _
    (zero_at _ _ k zeros) (c.add_rows.ensures.value k) (products_of_all lp ys k)
