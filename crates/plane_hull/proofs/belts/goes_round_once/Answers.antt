-- Each side adds its change to those counted.
use Rattle.std.proofs.Common.{◌≡◌, ℕ, ◌-◌, slice_get, Some, subst, ap, arith}
use Rattle.plane_hull.specs.Belt.{changes_from, last_corner}
use Rattle.plane_hull.proofs.Reading.{counted_more, counted_same, last_is}
use Rattle.plane_hull.proofs.belts.goes_round_once.Goals as goal
use Rattle.plane_hull.proofs.belts.goes_round_once.Goals.{then-corner-here, else-corner-here}

pub loop-side-init : goal.loop-side-init
loop-side-init c =
    let sides = c.args.sides.now in
    let at = subst (λ (m : ℕ). slice_get sides (m - 1) ≡ Some c.at.result.now) c.len.ensures.count c.at.ensures.item in
    let last : changes_from (last_corner sides) sides ≡ changes_from c.at.result.now.corner sides = ap (λ (corner : ℕ). changes_from corner sides) (last_is sides c.at.result.now at) in
    record { counted = omega arith; rest = omega arith }

pub loop-side-preserved : goal.loop-side-preserved
loop-side-preserved c =
    elim c.if-corner-here.branch [
      | then-corner-here w ↦
          record {
            counted = let low = c.loop-side.invariant.counted in omega (arith, w.changes-is);
            rest = counted_more _ _ c.loop-side.changes _ _ c.args.sides.now c.at-in-loop-side.result.now c.at-in-loop-side.ensures.item w.if-corner-here.true w.changes-is c.loop-side.invariant.rest;
          }
      | else-corner-here w ↦
          record {
            counted = let low = c.loop-side.invariant.counted in omega (arith, w.changes-is);
            rest = counted_same _ _ c.loop-side.changes _ _ c.args.sides.now c.at-in-loop-side.result.now c.at-in-loop-side.ensures.item w.if-corner-here.false w.changes-is c.loop-side.invariant.rest;
          }
    ]
