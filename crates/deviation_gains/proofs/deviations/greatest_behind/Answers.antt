-- The number here, like the best before, is one of those behind.
use Rattle.std.proofs.Common.{rules, inl, inr, ◌+◌, ◌≤◌, get_or, take, unsigned_abs, to_z, pos, FitsSigned, arith}
use Rattle.deviation_gains.specs.Reach.{reach}
use Rattle.std.specs.Int.{w128}
use Rattle.std.proofs.lemmas.Int.{to_z-of_z}
use Rattle.deviation_gains.proofs.GreatestSteps.{best_first, best_next}
use Rattle.deviation_gains.proofs.Sizes.{reach_take}
use Rattle.deviation_gains.proofs.deviations.greatest_behind.Goals as goal

pub loop-k-init : goal.loop-k-init
loop-k-init c =
    let fits : FitsSigned w128 (get_or c.args.left.now c.args.first (pos 0)) = search rules in
    let back = to_z-of_z w128 (get_or c.args.left.now c.args.first (pos 0)) fits in
    let best = best_first c.args.left.now c.args.first in
    rw back (reach_take c.args.left.now c.args.first c.args.first (omega arith), best.0, best.1)

pub loop-k-preserved : goal.loop-k-preserved
loop-k-preserved c =
    let r = c.greater-best.result in
    let xs = c.args.left.now in
    let fits : FitsSigned w128 r = search rules in
    let here : FitsSigned w128 (get_or xs c.loop-k.k (pos 0)) = search rules in
    let one_of : unsigned_abs r + reach (take c.args.first xs) ≤ reach xs = elim c.greater-best.ensures.one_of [
      | inl same ↦ rw same c.loop-k.invariant.0
      | inr other ↦ rw (other, to_z-of_z w128 (get_or xs c.loop-k.k (pos 0)) here) (reach_take xs c.args.first c.loop-k.k (omega arith))
    ] in
    let from : c.args.first ≤ c.loop-k.k = omega (arith, c.loop-k.invariant.2.1, c.loop-k.invariant.2.2) in
    let one = rw (to_z-of_z w128 (get_or xs c.loop-k.k (pos 0)) here) at c.greater-best.ensures.one_of in
    let most = rw (to_z-of_z w128 (get_or xs c.loop-k.k (pos 0)) here) at c.greater-best.ensures.over in
    let next = best_next xs c.args.first c.loop-k.k (to_z w128 c.loop-k.best-bits) r from
    (c.loop-k.invariant.1, c.loop-k.invariant.2) one most in
    rw (to_z-of_z w128 r fits) (one_of, next.0, next.1)
