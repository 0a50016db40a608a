-- The correlation rows add 2^86 at most, the incentive rows 2^115.
use Rattle.std.proofs.Common.{rules, ℕ, ◌+◌, ◌^◌, ◌*◌, ◌≤◌, length, get_or, pos, unsigned_abs, arith}
use Rattle.column_sums.specs.Products.{product_to}
use Rattle.column_sums.proofs.ColumnSums.{product_bound, sum_bound, zero_at}
use Rattle.cert_check.proofs.Whole.{both_added, nothing_at, products_of_both}
use Rattle.cert_check.proofs.multipliers.column_products.Goals as goal

pub add_rows-requires-clause-room : goal.add_rows-requires-clause-room
add_rows-requires-clause-room c =
    (0, 2 ^ 62, λ k. zero_at _ _ k (c.in_ok-sums.ensures.items_if_clones_equal (λ y h. search rules)), λ r k. omega (arith, c.requires.bounded.units r k), omega (arith, c.requires.bounded.few_base))

pub add_rows-requires-2-clause-room : goal.add_rows-requires-2-clause-room
add_rows-requires-2-clause-room c =
    let base = c.args.program.now.base in
    let ys = c.args.list.now in
    let zeros = c.in_ok-sums.ensures.items_if_clones_equal (λ y h. search rules) in
    let first : (k : ℕ) → unsigned_abs (get_or c.add_rows.new.sums.items k (pos 0)) ≤ 0 + length base.rows * 2 ^ 62 = λ k.
    sum_bound (get_or c.add_rows.new.sums.items k (pos 0)) (get_or c.in_ok-sums.sums.items k (pos 0)) (product_to (length base.rows) ys 0 base k) 0 (length base.rows * 2 ^ 62)
    (c.add_rows.ensures.value k) (zero_at _ _ k zeros)
    (product_bound (length base.rows) 0 (2 ^ 62) k ys base c.requires.narrow (omega (arith, c.requires.per_row)) (λ r j. omega (arith, c.requires.bounded.units r j))) in
    (2 ^ 86, 2 ^ 104, λ k. omega (arith, first k, c.requires.bounded.few_base), λ r k. omega (arith, c.requires.bounded.incentives r k), omega (arith, c.requires.bounded.few_more))

pub returns-clause-bound : goal.returns-clause-bound
returns-clause-bound c =
    let base = c.args.program.now.base in
    let ys = c.args.list.now in
    let zeros = c.in_ok-sums.ensures.items_if_clones_equal (λ y h. search rules) in
    let first : (k : ℕ) → unsigned_abs (get_or c.add_rows.new.sums.items k (pos 0)) ≤ 0 + length base.rows * 2 ^ 62 = λ k.
    sum_bound (get_or c.add_rows.new.sums.items k (pos 0)) (get_or c.in_ok-sums.sums.items k (pos 0)) (product_to (length base.rows) ys 0 base k) 0 (length base.rows * 2 ^ 62)
    (c.add_rows.ensures.value k) (zero_at _ _ k zeros)
    (product_bound (length base.rows) 0 (2 ^ 62) k ys base c.requires.narrow (omega (arith, c.requires.per_row)) (λ r j. omega (arith, c.requires.bounded.units r j))) in
    let more = c.args.program.now.more in
    λ k.
    let second = sum_bound (get_or c.add_rows-2.new.sums.items k (pos 0)) (get_or c.add_rows.new.sums.items k (pos 0)) (product_to (length more.rows) ys c.rows.result more k) (2 ^ 86) (length more.rows * 2 ^ 104)
    (c.add_rows-2.ensures.value k) (omega (arith, first k, c.requires.bounded.few_base))
    (product_bound (length more.rows) c.rows.result (2 ^ 104) k ys more c.requires.narrow (omega (arith, c.requires.per_row, c.rows.ensures.count)) (λ r j. omega (arith, c.requires.bounded.incentives r j))) in
    omega (arith, second, c.requires.bounded.few_more)

pub returns-clause-products : goal.returns-clause-products
returns-clause-products c = λ k.
    let base = c.args.program.now.base in
    let more = c.args.program.now.more in
    let ys = c.args.list.now in
    let zeros = c.in_ok-sums.ensures.items_if_clones_equal (λ y h. search rules) in
    both_added (get_or c.in_ok-sums.sums.items k (pos 0)) (get_or c.add_rows.new.sums.items k (pos 0)) (get_or c.add_rows-2.new.sums.items k (pos 0)) _ _ _
    (nothing_at _ (zero_at _ _ k zeros)) (c.add_rows.ensures.value k) (rw c.rows.ensures.count at c.add_rows-2.ensures.value k) (products_of_both base more ys k)
