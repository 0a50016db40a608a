-- The leaf's sequence gets one weighted amount more.
use Rattle.std.proofs.Common.{rules, ◌≡◌, ◌+◌, ◌^◌, ◌<◌, ◌≤◌, length, slice_index, unsigned_abs, to_z, of_z, ◌+ℤ◌, ◌*ℤ◌, ◌∙◌, arith}
use Rattle.std.specs.Int.{w128}
use Rattle.corr_game.specs.Plan.{plan_of}
use Rattle.sequences.specs.Number.{Plays, side_of}
use Rattle.connected_pairs.specs.Connected.{other}
use Rattle.corr_num.proofs.PrintedTerms.{narrow_returned, returned}
use Rattle.deviation_gains.proofs.LeftSteps.{leaf_grows, leaf_stays, told_false, told_true}
use Rattle.column_sums.proofs.ProductSizes.{size_passed}
use Rattle.deviation_gains.proofs.Sizes.{reach_get, reach_put}
use Rattle.deviation_gains.proofs.deviations.add_leaf.Goals as goal

pub plus_product-requires-clause-before : goal.plus_product-requires-clause-before
plus_product-requires-clause-before c =
    let low : c.seq_at-own.result < length c.args.left.now.items = omega (arith, c.seq_at-own.ensures.in_range, c.requires.per_sequence) in
    size_passed c.index.result.now (2 ^ 125) (omega (arith, reach_get c.args.left.now.items c.seq_at-own.result c.index.result.now low c.index.ensures, c.requires.room)) (omega arith)

pub returns-then-plays-clause-bound : goal.returns-then-plays-clause-bound
returns-then-plays-clause-bound c =
    let low : c.seq_at-own.result < length c.args.left.now.items = omega (arith, c.seq_at-own.ensures.in_range, c.requires.per_sequence) in
    let x = c.index.result.now in
    let here : unsigned_abs x ≤ 2 ^ 121 = omega (arith, reach_get c.args.left.now.items c.seq_at-own.result x low c.index.ensures, c.requires.room) in
    let bound = rw (returned x (omega arith), returned c.amount_at.result (omega (arith, c.amount_at.ensures.small))) at c.plus_product.ensures.bound in
    let size = size_passed c.plus_product.result (unsigned_abs x + 2 ^ 90) (omega (arith, bound, c.amount_at.ensures.small)) (omega arith) in
    omega (arith, reach_put c.args.left.now.items c.seq_at-own.result x (to_z w128 (of_z w128 c.plus_product.result)) low c.index.ensures, size)

pub returns-then-plays-clause-sums : goal.returns-then-plays-clause-sums
returns-then-plays-clause-sums c = λ plays same q in_range.
    let xs = c.args.left.now.items in
    let own = c.seq_at-own.result in
    let x = c.index.result.now in
    let a = c.amount_at.result in
    let w = c.args.paid.0.now.weight in
    let v = to_z w128 (of_z w128 c.plus_product.result) in
    let low : own < length xs = omega (arith, c.seq_at-own.ensures.in_range, c.requires.per_sequence) in
    let here : unsigned_abs x ≤ 2 ^ 121 = omega (arith, reach_get xs own x low c.index.ensures, c.requires.room) in
    let small = c.amount_at.ensures.small in
    let bound = rw (returned x (omega arith), returned a (omega arith)) at c.plus_product.ensures.bound in
    let value = rw (returned x (omega arith), returned a (omega arith), narrow_returned w c.requires.drawn.1)
    at c.plus_product.ensures.value in
    let same_value : v ≡ x +ℤ w *ℤ a = returned c.plus_product.result (omega (arith, bound, small)) ∙ value in
    let there : Plays (side_of (other c.args.at.0) c.args.pairs.now.seqs)
    (plan_of (other c.args.at.0) c.args.paid.0.now.one c.args.paid.0.now.two)
    (slice_index (side_of (other c.args.at.0) c.args.pairs.now.seqs).nodes c.args.at.1) = search rules in
    let grows = leaf_grows xs own x v w a plays (told_true plays same there) low c.index.ensures same_value q in
    rw (← c.seq_at-own.ensures.number, ← c.amount_at.ensures.value) grows

pub returns-else-plays-clause-sums : goal.returns-else-plays-clause-sums
returns-else-plays-clause-sums c = λ plays same q in_range.
    let away : Plays (side_of (other c.args.at.0) c.args.pairs.now.seqs)
    (plan_of (other c.args.at.0) c.args.paid.0.now.one c.args.paid.0.now.two)
    (slice_index (side_of (other c.args.at.0) c.args.pairs.now.seqs).nodes c.args.at.1) → ⊥ = search rules in
    leaf_stays _ _ _ _ plays (told_false plays same away)
