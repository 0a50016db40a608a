-- At each turn the pair has the place of as many pairs as came before, so that one product more is added to the sum so far.
use Rattle.std.proofs.Common.{rules, ◌≡◌, ℕ, suc, ◌*◌, ◌^◌, ◌≤◌, List, length, take, ℤ, pos, ◌+ℤ◌, ◌*ℤ◌, unsigned_abs, FitsSigned, to_z, refl, ◌∙◌, add-one, arith}
use Rattle.std.specs.Int.{w64, w128}
use Rattle.std.proofs.lemmas.List.{length_push, take_all}
use Rattle.std.proofs.lemmas.List.Elements.{All-get_or}
use Rattle.std.proofs.lemmas.Slice.Zip.{zip_turn, zip_end}
use Rattle.exact_algebra.specs.Sums.{dot}
use Rattle.exact_algebra.proofs.Dot.{entry, dot-take_more}
use Rattle.corr_num.specs.Narrow.{Narrow}
use Rattle.corr_num.proofs.MagnitudeBounds.{word_product}
use Rattle.corr_num.proofs.PartialSums.{partial_sum_bound, partial_sum_more, partial_sum_returned}
use Rattle.corr_num.proofs.PrintedTerms.{word_product_passed}
use Rattle.corr_num.proofs.products.dot.Goals as goal

one_more : (ys xs : List ℤ) (k : ℕ) (t y x : ℤ) → t ≡ dot (take k ys) (take k xs) → y ≡ entry ys k → x ≡ entry xs k → t +ℤ y *ℤ x ≡ dot (take (suc k) ys) (take (suc k) xs)
one_more ys xs k t y x e f g = rw (dot-take_more ys xs k, e, f, g)

pub loop-y-init : goal.loop-y-init
unfolding dot
loop-y-init c = record { value = refl; bound = omega arith }

pub sum-total-requires-clause-left : goal.sum-total-requires-clause-left
sum-total-requires-clause-left c =
    let turn = zip_turn c.args.ys.now c.args.xs.now c.loop-y.yielded c.into_iter-y-iterator.result c.loop-y.y-iterator c.next.new.self c.next.result (search rules) (search rules) c.loop-y.yielded_by _ c.in-Some.is c.next.ensures.steps in
    partial_sum_bound (length c.args.xs.now) (length c.loop-y.yielded) (to_z w128 c.loop-y.total-bits) turn.1 c.loop-y.invariant.bound

pub sum-total-requires-clause-right : goal.sum-total-requires-clause-right
sum-total-requires-clause-right c =
    let turn = zip_turn c.args.ys.now c.args.xs.now c.loop-y.yielded c.into_iter-y-iterator.result c.loop-y.y-iterator c.next.new.self c.next.result (search rules) (search rules) c.loop-y.yielded_by _ c.in-Some.is c.next.ensures.steps in
    let x_fits : FitsSigned w64 c.in-Some.x.now = search rules in
    let narrow : Narrow c.in-Some.y.now = rw (turn.2 (pos 0)) (All-get_or Narrow c.args.ys.now (length c.loop-y.yielded) (pos 0) turn.0 c.requires.ys_narrow) in
    rw (word_product_passed c.product.result c.from.result c.in-Some.y.now c.in-Some.x.now narrow x_fits c.from.ensures c.product.ensures) (omega (arith, word_product c.in-Some.y.now c.in-Some.x.now narrow x_fits))

pub loop-y-preserved : goal.loop-y-preserved
loop-y-preserved c =
    let n = length c.args.xs.now in
    let k = length c.loop-y.yielded in
    let turn = zip_turn c.args.ys.now c.args.xs.now c.loop-y.yielded c.into_iter-y-iterator.result c.loop-y.y-iterator c.next.new.self c.next.result (search rules) (search rules) c.loop-y.yielded_by _ c.in-Some.is c.next.ensures.steps in
    let x_fits : FitsSigned w64 c.in-Some.x.now = search rules in
    let narrow : Narrow c.in-Some.y.now = rw (turn.2 (pos 0)) (All-get_or Narrow c.args.ys.now k (pos 0) turn.0 c.requires.ys_narrow) in
    let small : n * unsigned_abs c.in-Some.x.now ≤ 2 ^ 64 = rw (turn.3 (pos 0)) (All-get_or (λ x. n * unsigned_abs x ≤ 2 ^ 64) c.args.xs.now k (pos 0) turn.1 c.requires.xs_bound) in
    let last = word_product_passed c.product.result c.from.result c.in-Some.y.now c.in-Some.x.now narrow x_fits c.from.ensures c.product.ensures in
    let sum_is = rw last at c.sum-total.ensures in
    let sum_returned = partial_sum_returned n k (to_z w128 c.loop-y.total-bits) c.in-Some.y.now c.in-Some.x.now turn.1 narrow small c.loop-y.invariant.bound in
    let pushed = length_push c.loop-y.yielded (c.in-Some.y, c.in-Some.x) ∙ add-one k in
    rw (sum_is, sum_returned, pushed) (record {
      value = one_more c.args.ys.now c.args.xs.now k (to_z w128 c.loop-y.total-bits) c.in-Some.y.now c.in-Some.x.now c.loop-y.invariant.value (turn.2 (pos 0)) (turn.3 (pos 0));
      bound = partial_sum_more n k (to_z w128 c.loop-y.total-bits) c.in-Some.y.now c.in-Some.x.now narrow small c.loop-y.invariant.bound;
    })

pub returns : goal.returns
returns c =
    let end = zip_end c.args.ys.now c.args.xs.now c.loop-y.yielded c.into_iter-y-iterator.result c.loop-y.y-iterator c.next.new.self c.next.result (search rules) (search rules) c.loop-y.yielded_by c.in-None.is c.next.ensures.steps in
    let ys_all = take_all (length c.loop-y.yielded) c.args.ys.now (omega arith) in
    let xs_all = take_all (length c.loop-y.yielded) c.args.xs.now (omega arith) in
    let total_is = rw (ys_all, xs_all) at c.loop-y.invariant.value in
    record {
      exact = rw total_is at c.narrowed.ensures.exact;
      wide = rw total_is at c.narrowed.ensures.wide;
    }
