-- The point lies no further in each side, or is found to in one.
use Rattle.std.proofs.Common.{refl, arith}
use Rattle.std.proofs.lemmas.Option.{slice_get_within}
use Rattle.plane_hull.specs.Inside.{corner_at}
use Rattle.plain_programs.specs.SmallPolygon.{place_at}
use Rattle.plain_programs.proofs.Places.{corner_told}
use Rattle.plain_programs.proofs.insides.is_inside.Goals as goal

pub returns-then-not-lies_no_further : goal.returns-then-not-lies_no_further
returns-then-not-lies_no_further c =
    let told = corner_told c.args.scales.now.0 c.args.scales.now.1 c.at-side.result.now.dir (place_at c.args.p.now) (place_at c.corner.result) (corner_at c.args.points.now c.at-side.result.now.corner) c.lies_no_further.result c.corner.ensures.place c.lies_no_further.ensures in (
      λ t. absurd (cc),
      λ inside. let yes = told.1 (inside c.loop-k.k c.at-side.result.now c.at-side.ensures.item) in cc (yes, c.if-not-lies_no_further.true),
    )

pub returns : goal.returns
returns c =
    (λ t. λ k side at. c.loop-k.invariant k side (let inside = slice_get_within c.args.sides.now k side at in omega arith) at, λ inside. refl)
