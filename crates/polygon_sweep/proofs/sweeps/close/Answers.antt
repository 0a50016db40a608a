-- The last side stands at the present corner.
use Rattle.std.proofs.Common.{arith}
use Rattle.polygon_sweep.proofs.Growing.{at_corner}
use Rattle.polygon_sweep.specs.Turns.{at_last}
use Rattle.polygon_sweep.proofs.sweeps.close.Goals as goal

pub returns-clause-after : goal.returns-clause-after
returns-clause-after g c =
    let side = at_corner _ _ _ _ _ c.in_ok-side_at.ensures.side c.in_ok-side_at.ensures.number
    c.in_ok-side_at.ensures.point c.requires.present in
    c.in_ok-add_side.ensures.kept _ c.requires.before side

pub returns-clause-closes : goal.returns-clause-closes
returns-clause-closes g c = at_last c.in_ok-side_at.field-0 (omega (arith, c.if-present-eq0.false))
    c.in_ok-add_side.ensures.corners c.in_ok-add_side.ensures.added
    (c.in_ok-side_at.ensures.direction, c.in_ok-side_at.ensures.number)
