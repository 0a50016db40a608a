-- What the numbers left reach doesn't grow, since the greatest at a set is one of those that go.
use Rattle.std.proofs.Common.{rules, ◌≡◌, ◌-◌, ◌^◌, ◌<◌, ◌≤◌, ◌+ℤ◌, None, Some, length, sym, ap, ◌∙◌, unsigned_abs, to_z, of_z, arith}
use Rattle.std.specs.Int.{w128}
use Rattle.sequences.proofs.Holding.{set_in}
use Rattle.sequences.specs.Number.{last_of, side_of}
use Rattle.corr_num.proofs.PrintedTerms.{returned}
use Rattle.corr_num.proofs.MagnitudeBounds.{sum_magnitude}
use Rattle.deviation_gains.proofs.GreatestSets.{gone_on, worth_at_last, worth_here}
use Rattle.deviation_gains.proofs.LeftSteps.{stood_here}
use Rattle.column_sums.proofs.ProductSizes.{put_length, size_passed}
use Rattle.deviation_gains.proofs.Sizes.{cut_length, cut_put, cut_size, reach_get, sum_size}
use Rattle.deviation_gains.proofs.deviations.+best_from.Goals as goal

pub overflow_cast-len : goal.overflow_cast-len
overflow_cast-len t c = omega (arith, c.len.ensures, c.args.left.now.ok.0, c.requires.few)

pub own-own-requires : goal.own-own-requires
own-own-requires t c = set_in _ c.last.ensures.rules (c.len.result - 1) c.in-Some.taken (sym c.in-Some.ensures.taken)

pub sum-requires-clause-left : goal.sum-requires-clause-left
sum-requires-clause-left t c =
    let low : c.own-own.result < length c.truncate.new.self.items = search rules in
    let bound = rw c.deref.ensures.value at c.greatest_behind-best.ensures.bound in
    let size = cut_size _ _ _ c.own-own.result c.index-in-Some.result.now c.greatest_behind-best.result c.truncate.ensures.items low c.index-in-Some.ensures bound in
    let small = size_passed c.index-in-Some.result.now (2 ^ 120) (omega (arith, size, c.requires.room)) (omega arith) in
    omega (arith, small)

pub best_from-requires : goal.best_from-requires
best_from-requires t c =
    let ys = c.truncate.new.self.items in
    let own = c.own-own.result in
    let x = c.index-in-Some.result.now in
    let best = c.greatest_behind-best.result in
    let v = to_z w128 (of_z w128 c.sum.result) in
    let low : own < length ys = search rules in
    let bound = rw c.deref.ensures.value at c.greatest_behind-best.ensures.bound in
    let size = cut_size _ _ _ own x best c.truncate.ensures.items low c.index-in-Some.ensures bound in
    let sum = sum_size c.sum.result x best (omega (arith, size, c.requires.room)) (omega (arith, bound, c.requires.room)) c.sum.ensures in
    let all = cut_put _ _ _ own x best v c.truncate.ensures.items low c.index-in-Some.ensures bound sum in
    let short = cut_length _ _ _ c.truncate.ensures.items in
    let same = put_length ys own v in
    let count : c.len-in-Some.result ≡ length c.args.left.now.items = omega (arith, c.len-in-Some.ensures, c.args.left.now.ok.0) in
    (omega (arith, c.decreases, same, short, count, c.requires.some), (omega (arith, same, low), (omega (arith, same, short, count, c.requires.some, c.requires.per_sequence), (omega (arith, same, short, count, c.requires.few), omega (arith, all, c.requires.room)))))

pub returns-in-None-clause-worth : goal.returns-in-None-clause-worth
returns-in-None-clause-worth t c = λ paid row before gone.
    let v = side_of c.args.trigger.now.side c.args.seqs.now in
    let xs = c.args.left.now.items in
    let count : c.len.result ≡ length xs = omega (arith, c.len.ensures, c.args.left.now.ok.0) in
    let none : last_of v (length xs - 1) ≡ None = ap (λ k. last_of v (k - 1)) (sym count) ∙ sym c.in-None.ensures.taken in
    let x = c.index.result.now in
    let small : unsigned_abs x ≤ 2 ^ 120 = omega (arith, reach_get xs 0 x c.requires.some c.index.ensures, c.requires.room) in
    worth_at_last v c.last.ensures.rules row paid xs gone c.args.trigger.now.set _ before c.requires.some c.requires.per_sequence none
    (returned x (omega arith) ∙ sym (stood_here xs 0 x c.requires.some c.index.ensures))

pub returns-then-eq-clause-worth : goal.returns-then-eq-clause-worth
returns-then-eq-clause-worth t c = λ paid row before gone.
    let v = side_of c.args.trigger.now.side c.args.seqs.now in
    let xs = c.args.left.now.items in
    let taken = c.in-Some.taken in
    let count : c.len.result ≡ length xs = omega (arith, c.len.ensures, c.args.left.now.ok.0) in
    let again : c.len-in-Some.result ≡ length xs = omega (arith, c.len-in-Some.ensures, c.args.left.now.ok.0) in
    let last : last_of v (length xs - 1) ≡ Some taken = ap (λ k. last_of v (k - 1)) (sym count) ∙ sym c.in-Some.ensures.taken in
    let best = c.greatest_behind-best.result in
    let bound = rw c.deref.ensures.value at c.greatest_behind-best.ensures.bound in
    let over = rw (again, c.deref.ensures.value) at c.greatest_behind-best.ensures.over in
    let met = rw (again, c.deref.ensures.value) at c.greatest_behind-best.ensures.met in
    let here : c.args.trigger.now.set ≡ Some taken.0 = search rules in
    rw (returned best (omega (arith, bound, c.requires.room)))
    (worth_here v c.last.ensures.rules row paid xs gone taken last c.requires.some best over met c.args.trigger.now.set here)

pub returns-else-eq-clause-worth : goal.returns-else-eq-clause-worth
returns-else-eq-clause-worth t c = λ paid row before gone.
    let v = side_of c.args.trigger.now.side c.args.seqs.now in
    let xs = c.args.left.now.items in
    let taken = c.in-Some.taken in
    let ys = c.truncate.new.self.items in
    let own = c.own-own.result in
    let x = c.index-in-Some.result.now in
    let sum = to_z w128 (of_z w128 c.sum.result) in
    let count : c.len.result ≡ length xs = omega (arith, c.len.ensures, c.args.left.now.ok.0) in
    let again : c.len-in-Some.result ≡ length xs = omega (arith, c.len-in-Some.ensures, c.args.left.now.ok.0) in
    let last : last_of v (length xs - 1) ≡ Some taken = ap (λ k. last_of v (k - 1)) (sym count) ∙ sym c.in-Some.ensures.taken in
    let best = c.greatest_behind-best.result in
    let bound = rw c.deref.ensures.value at c.greatest_behind-best.ensures.bound in
    let over = rw (again, c.deref.ensures.value) at c.greatest_behind-best.ensures.over in
    let met = rw (again, c.deref.ensures.value) at c.greatest_behind-best.ensures.met in
    let away : c.args.trigger.now.set ≡ Some taken.0 → ⊥ = search rules in
    let low : own < length ys = search rules in
    let size = cut_size _ _ _ own x best c.truncate.ensures.items low c.index-in-Some.ensures bound in
    let small : unsigned_abs x ≤ 2 ^ 120 = omega (arith, size, c.requires.room) in
    let few : unsigned_abs best ≤ 2 ^ 120 = omega (arith, bound, c.requires.room) in
    let plain = rw (returned x (omega arith), returned best (omega arith)) at c.sum.ensures in
    let grown : sum ≡ x +ℤ best =
    ap (λ z. to_z w128 (of_z w128 z)) plain ∙ returned (x +ℤ best) (omega (arith, sum_magnitude x best)) in
    let parts = gone_on v c.last.ensures.rules row paid xs gone taken last c.requires.some best over met _ own ys x sum
    (ap (λ k. k - 1 - taken.1) again) c.truncate.ensures.items c.own-own.ensures.number c.index-in-Some.ensures grown
    c.args.trigger.now.set away before in
    rw (returned c.best_from.result (omega (arith, c.best_from.ensures.bound)))
    (c.best_from.ensures.worth paid row parts.0 parts.1)
