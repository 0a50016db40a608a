-- The corner that is added keeps all that stands, and the tableau is there. It is another point than those that the tableau doesn't reach.
use Rattle.std.proofs.Common.{◌+◌, refl}
use Rattle.polygon_sweep.proofs.Parting.{apart, apart_turned, corner_of, elsewhere}
use Rattle.polygon_sweep.specs.Turns.{adds, returns}
use Rattle.polygon_sweep.proofs.sweeps.arrive.Goals as goal

pub returns-clause-after : goal.returns-clause-after
returns-clause-after g c = c.in_ok-last.ensures.kept _ c.requires.before c.in_ok-corner_at.ensures.corner

pub returns-then-reaches-2-clause-arrives : goal.returns-then-reaches-2-clause-arrives
returns-then-reaches-2-clause-arrives g c =
    let t = g.T.Tableau.content c.args.table.now in
    let rows = c.of-shape.result.rows in
    let right = c.of-shape.result.cols + c.of-shape.result.rows in
    let there = c.if-reaches-2.ensures.0 refl in
    let first = corner_of c.args.lp.now c.args.swept.now.corners 0 c.at-2.result.now c.requires.before.corners c.at-2.ensures.item in
    returns refl refl
    (elsewhere t rows right c.args.swept.now.corners c.args.present c.at.result.now c.at-2.result.now c.at.ensures.item c.at-2.ensures.item
    (λ r. let true_too = c.reaches.ensures.1 r in absurd (cc)) there)
    (apart t rows right c.args.swept.now.corners c.args.present 0 c.at.result.now c.at-2.result.now c.at.ensures.item c.at-2.ensures.item
    first.positive (λ r. let true_too = c.reaches.ensures.1 r in absurd (cc)) there)

pub returns-clause-arrives : goal.returns-clause-arrives
returns-clause-arrives g c =
    let t = g.T.Tableau.content c.args.table.now in
    let rows = c.of-shape.result.rows in
    let right = c.of-shape.result.cols + c.of-shape.result.rows in
    let there = rw (← c.of-shape.ensures.rows, ← c.of-shape.ensures.cols) at c.in_ok-corner_at.ensures.reached in
    let more = c.add_corner.new.swept.corners in
    let corner = c.in_ok-corner_at.field-0 in
    let grown = c.in_ok-last.ensures.grown in
    adds c.in_ok-last.ensures.sides c.in_ok-last.ensures.count c.in_ok-last.ensures.number
    (apart t rows right more c.args.present c.in_ok-last.last c.at.result.now corner (grown _ _ c.at.ensures.item) c.in_ok-last.ensures.last
    c.in_ok-corner_at.ensures.corner.positive (λ r. let true_too = c.reaches.ensures.1 r in absurd (cc)) there)
    (apart_turned more 0 c.in_ok-last.last
    (apart t rows right more 0 c.in_ok-last.last c.at-2.result.now corner (grown _ _ c.at-2.ensures.item) c.in_ok-last.ensures.last
    c.in_ok-corner_at.ensures.corner.positive (λ r. let true_too = c.reaches-2.ensures.1 r in absurd (cc)) there))
