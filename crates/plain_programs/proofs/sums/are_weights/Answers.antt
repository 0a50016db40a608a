-- One weight more takes its part of the room.
use Rattle.std.proofs.Common.{FitsSigned, refl, arith}
use Rattle.std.specs.Int.{w128}
use Rattle.std.proofs.lemmas.Bool.{false≢true}
use Rattle.std.proofs.lemmas.Int.{ints, to_z-of_z}
use Rattle.plain_programs.proofs.WeightRoom.{all_in_room, below_0, next_room, no_room, pair_there, room_at_most, test_above, test_below}
use Rattle.plain_programs.proofs.sums.are_weights.Goals as goal
use Rattle.plain_programs.proofs.sums.are_weights.Goals.{then-weight-lt0-via-then-weight-lt0}
use Rattle.plain_programs.proofs.sums.are_weights.Goals.{then-weight-lt0-via-else-weight-lt0+then-weight-left}

pub returns-then-weight-lt0 : goal.returns-then-weight-lt0
returns-then-weight-lt0 c =
    let list = c.args.list.now in
    let w = c.weight_at-weight.result in
    let fits : FitsSigned w128 w = record { sfits = c.weight_at-weight.type_inv } in
    let back = to_z-of_z w128 w fits in
    let pair = pair_there list c.loop-k.k (omega arith) in
    let same = c.weight_at-weight.ensures pair.0 pair.1 in (
      λ h. absurd (false≢true h),
      λ all. absurd (elim c.then-weight-lt0.branch [
        | then-weight-lt0-via-then-weight-lt0 v ↦
            below_0 list c.loop-k.k w pair.0 (omega arith) pair.1 same (test_below w _ (rw back at v.if-weight-lt0.true)) all
        | then-weight-lt0-via-else-weight-lt0+then-weight-left v ↦
            no_room w pair.0 (omega arith) pair.1 c.loop-k.invariant same (test_above w _ (rw back at v.if-weight-lt0.false))
            (test_below _ w (rw back at v.if-weight-left.true)) all
      ]),
    )

pub difference-left-requires-clause-left : goal.difference-left-requires-clause-left
difference-left-requires-clause-left c = omega (arith, room_at_most c.loop-k.invariant)

pub difference-left-requires-clause-right : goal.difference-left-requires-clause-right
difference-left-requires-clause-right c =
    let w = c.weight_at-weight.result in
    let fits : FitsSigned w128 w = record { sfits = c.weight_at-weight.type_inv } in
    let back = to_z-of_z w128 w fits in
    let low = test_above w _ (rw back at c.if-weight-lt0.false) in
    let high = test_above _ w (rw back at c.if-weight-left.false) in
    rw back (omega (arith, ints, low, high, room_at_most c.loop-k.invariant))

pub loop-k-preserved : goal.loop-k-preserved
loop-k-preserved c =
    let list = c.args.list.now in
    let w = c.weight_at-weight.result in
    let fits : FitsSigned w128 w = record { sfits = c.weight_at-weight.type_inv } in
    let back = to_z-of_z w128 w fits in
    let pair = pair_there list c.loop-k.k (omega arith) in
    let same = c.weight_at-weight.ensures pair.0 pair.1 in
    let low = test_above w _ (rw back at c.if-weight-lt0.false) in
    let high = test_above _ w (rw back at c.if-weight-left.false) in
    let left = rw back at c.difference-left.ensures in
    let fits_too : FitsSigned w128 c.difference-left.result = record { sfits = c.difference-left.type_inv } in
    let less = to_z-of_z w128 c.difference-left.result fits_too in
    rw less (next_room c.difference-left.result w pair.0 (omega arith) pair.1 c.loop-k.invariant same low high left)

pub returns : goal.returns
returns c = (λ h. all_in_room (omega arith) c.loop-k.invariant, λ all. refl)
