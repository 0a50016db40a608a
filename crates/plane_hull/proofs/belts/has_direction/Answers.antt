-- A side of the direction is found, or none is left.
use Rattle.std.proofs.Common.{◌∙◌, refl, sym, arith}
use Rattle.std.specs.Int.{w128}
use Rattle.std.proofs.lemmas.Int.{to_z-of_z}
use Rattle.std.proofs.lemmas.Option.{slice_get_within}
use Rattle.plane_hull.proofs.belts.has_direction.Goals as goal

pub returns-then-is_direction : goal.returns-then-is_direction
returns-then-is_direction c =
    let is = c.is_direction.ensures.0 c.if-is_direction.true in
    (λ _. (c.loop-side.side, c.at.result.now, c.at.ensures.item, (is.0 ∙ to_z-of_z w128 c.args.a c.ranges.a, is.1 ∙ to_z-of_z w128 c.args.b c.ranges.b)), λ _. refl)

pub returns : goal.returns
returns c =
    let a_is = to_z-of_z w128 c.args.a c.ranges.a in
    let b_is = to_z-of_z w128 c.args.b c.ranges.b in (
      λ t. absurd (cc),
      λ (k, side, at, is). absurd
          (c.loop-side.invariant k side (let inside = slice_get_within c.args.sides.now k side at in omega arith) at (is.0 ∙ sym a_is, is.1 ∙ sym b_is)),
    )
