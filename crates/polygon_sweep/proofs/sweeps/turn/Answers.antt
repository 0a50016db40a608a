-- The sides that are added stand at corners that the tableau is at, before and after its pivots.
use Rattle.std.proofs.Common.{inl, [], ◌∷◌, ◌++◌, refl, sym, ap, ◌∙◌}
use Rattle.std.proofs.lemmas.List.{append_assoc}
use Rattle.plane_hull.specs.Belt.{IsAxis}
use Rattle.polygon_sweep.proofs.Arriving.{edge_added, nothing_added}
use Rattle.polygon_sweep.specs.declared.corners.Swept.{Swept}
use Rattle.polygon_sweep.specs.Turns.{meets_axis}
use Rattle.std.proofs.lemmas.Option.{slice_get_within}
use Rattle.polygon_sweep.proofs.Angles.{stays_over}
use Rattle.polygon_sweep.proofs.Growing.{at_corner, at_grown}
use Rattle.int_tableau.specs.declared.ends.PivotEnd.TheVariants.{NoMemory}
use Rattle.bland_simplex.proofs.Runs.{error_named, short_ends}
use Rattle.bland_simplex.specs.Steps.{IsTurning, StepsEnd, stays}
use Rattle.polygon_sweep.proofs.sweeps.turn.Goals.{else-reached-present-via-then-reached-present+else-not-is_axis, else-reached-present-via-else-reached-present}
use Rattle.polygon_sweep.proofs.sweeps.turn.Goals as goal

pub returns-in_err-side-clause-end : goal.returns-in_err-side-clause-end
returns-in_err-side-clause-end g c =
    let table = g.T.Tableau.content c.args.table.now in
    error_named _ NoMemory (StepsEnd (IsTurning c.args.lp.now c.args.dir) table table) c.from_residual.ensures.1
    (short_ends table table stays)

pub arrive-requires-clause-present : goal.arrive-requires-clause-present
arrive-requires-clause-present g c = slice_get_within _ _ _ c.requires.present.at

pub returns-then-reached-present-2-clause-after : goal.returns-then-reached-present-2-clause-after
returns-then-reached-present-2-clause-after g c =
    let here = at_grown _ _ _ _ _ c.in_ok-reached.ensures.grown c.requires.present in
    let side = at_corner _ _ _ _ _ c.in_ok-side.ensures.side c.in_ok-side.ensures.number c.in_ok-side.ensures.point here in
    c.in_ok-add_side.ensures.kept _ c.in_ok-reached.ensures.after side

pub returns-clause-after : goal.returns-clause-after
returns-clause-after g c =
    let here = at_grown _ _ _ _ _ c.in_ok-reached.ensures.grown c.requires.present in
    let side = at_corner _ _ _ _ _ c.in_ok-side.ensures.side c.in_ok-side.ensures.number c.in_ok-side.ensures.point here in
    let first = c.in_ok-add_side.ensures.kept _ c.in_ok-reached.ensures.after side in
    let there = rw (sym c.in_ok-add_side.ensures.corners) at c.in_ok-reached.ensures.reached in
    let other = at_corner _ _ _ _ _ c.in_ok-side_at.ensures.side c.in_ok-side_at.ensures.number c.in_ok-side_at.ensures.point there in
    c.in_ok-add_side-2.ensures.kept _ first other

pub side_at-requires-2-clause-bounding : goal.side_at-requires-2-clause-bounding
side_at-requires-2-clause-bounding g c = λ col l. stays_over _ (λ low. c.in_ok-best.ensures.optimal col l (inl low))

pub returns-then-reached-present-2-clause-turns : goal.returns-then-reached-present-2-clause-turns
returns-then-reached-present-2-clause-turns g c =
    let within = slice_get_within _ _ _ c.requires.present.at in
    let same = nothing_added c.args.swept.now c.arrive.new.swept c.args.present c.in_ok-reached.reached
    c.in_ok-reached.ensures.arrives within c.if-reached-present-2.true in
    let axis : IsAxis c.args.dir = elim c.else-reached-present.branch [
      | else-reached-present-via-then-reached-present+else-not-is_axis w ↦ w.is_axis.ensures.0 w.if-not-is_axis.false
      | else-reached-present-via-else-reached-present w ↦ absurd (w.if-reached-present.false c.if-reached-present-2.true)
    ] in
    meets_axis c.in_ok-side.side axis (c.in_ok-add_side.ensures.corners ∙ ap (λ (s : Swept). s.corners) same) refl
    (c.in_ok-add_side.ensures.added ∙ ap (λ (s : Swept). s.sides ++ c.in_ok-side.side ∷ []) same)
    (c.in_ok-side.ensures.direction, c.in_ok-side.ensures.number)

pub returns-clause-grown : goal.returns-clause-grown
returns-clause-grown g c = λ number corner there.
    rw (c.in_ok-add_side-2.ensures.corners, c.in_ok-add_side.ensures.corners) (c.in_ok-reached.ensures.grown number corner there)

pub returns-clause-turns : goal.returns-clause-turns
returns-clause-turns g c = edge_added c.args.swept.now c.arrive.new.swept c.args.present c.in_ok-reached.reached c.args.dir _
    c.in_ok-side.side c.in_ok-side_at.field-0 c.in_ok-reached.ensures.arrives c.if-reached-present-2.false
    (c.in_ok-add_side-2.ensures.corners ∙ c.in_ok-add_side.ensures.corners)
    (c.in_ok-add_side-2.ensures.added ∙ (ap (λ list. list ++ c.in_ok-side_at.field-0 ∷ []) c.in_ok-add_side.ensures.added
    ∙ append_assoc c.arrive.new.swept.sides (c.in_ok-side.side ∷ []) (c.in_ok-side_at.field-0 ∷ [])))
    (c.in_ok-side.ensures.direction, c.in_ok-side.ensures.number) (c.in_ok-side_at.ensures.direction, c.in_ok-side_at.ensures.number)
