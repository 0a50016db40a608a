-- Each turn raises the rank of the direction. A direction for which the tableau is optimal is one that it bounds.
use Rattle.std.proofs.Common.{inl, inr, refl}
use Rattle.bland_simplex.proofs.Reaching.{steps_left, steps_may}
use Rattle.bland_simplex.proofs.Runs.{error_named}
use Rattle.bland_simplex.specs.Steps.{IsTurning}
use Rattle.bland_simplex.specs.Reachable.{IsLeftWide, MayBeginAt, turning}
use Rattle.polygon_sweep.proofs.Greater.{turned_on}
use Rattle.polygon_sweep.proofs.Growing.{at_grown}
use Rattle.polygon_sweep.proofs.Returning.{HasFirst, first_grown, has_first, met_below, never_left}
use Rattle.polygon_sweep.proofs.Rounds.{goes_first, goes_on, goes_round}
use Rattle.polygon_sweep.specs.Round.{TurnsShort}
use Rattle.polygon_sweep.specs.Swept.{IsAt}
use Rattle.polygon_sweep.proofs.Axes.{first_axis}
use Rattle.polygon_sweep.proofs.Angles.{stays_over}
use Rattle.polygon_sweep.proofs.Ranks.{rank_falls}
use Rattle.polygon_sweep.proofs.sweeps.sweep.Goals as goal

pub loop-shape-init : goal.loop-shape-init
loop-shape-init g c = (
  c.in_ok-best.ensures.ready,
  c.in_ok-best.ensures.optimal,
  first_axis,
  c.in_ok-swept.ensures.at,
  c.in_ok-swept.ensures.begun,
  λ begins. steps_may c.args.lp.now (turning _) _ _ _ _ (λ t row col step. inr step) refl (begins _ (refl, refl))
      c.in_ok-best.ensures.steps,
  has_first c.args.lp.now (g.T.Tableau.content c.best.new.table) c.in_ok-swept.swept.corners c.in_ok-best.ensures.ready
      c.in_ok-best.ensures.optimal c.in_ok-swept.ensures.begun.corners c.in_ok-swept.ensures.at,
  goes_first _ c.in_ok-swept.swept (refl, refl) c.in_ok-swept.ensures.alone,
)

pub returns-in_err-best-clause-wide : goal.returns-in_err-best-clause-wide
returns-in_err-best-clause-wide g c =
    error_named _ _ (λ end. MayBeginAt c.args.lp.now (g.T.Tableau.content c.args.table.now) → IsLeftWide c.args.lp.now
    (g.T.Tableau.content c.best.new.table) end) c.from_residual.ensures.1
    (λ begins. steps_left c.args.lp.now (turning _) _ _ _ _ c.in_err-best.field-0.0 (λ t row col step. inr step) refl
    (begins _ (refl, refl)) c.in_err-best.ensures.end)

pub returns-in_err-present-clause-wide : goal.returns-in_err-present-clause-wide
returns-in_err-present-clause-wide g c =
    let next = c.next_direction-next.result in
    let table = g.T.Tableau.content c.loop-shape.table in
    let new = g.T.Tableau.content c.turn.new.table in
    let turns_too = turned_on c.args.lp.now c.loop-shape.dir next table c.loop-shape.invariant.0 c.loop-shape.invariant.1
    c.next_direction-next.ensures.turns c.next_direction-next.ensures.coprime
    (λ full. let true_too = c.is_full_turn.ensures.1 full in absurd (cc)) in
    error_named _ _ (λ end. MayBeginAt c.args.lp.now (g.T.Tableau.content c.args.table.now) → IsLeftWide c.args.lp.now new end)
    c.from_residual-in_err-present.ensures.1
    (λ begins. steps_left c.args.lp.now (turning next) next (IsTurning c.args.lp.now next) table new c.in_err-present.field-0.0
    (λ t row col step. inr step) refl
    (turns_too (c.loop-shape.invariant.5 begins)) c.in_err-present.ensures.end)

pub loop-shape-preserved : goal.loop-shape-preserved
loop-shape-preserved g c =
    let next = c.next_direction-next.result in
    let table = g.T.Tableau.content c.loop-shape.table in
    let new = g.T.Tableau.content c.turn.new.table in
    let grown = c.in_ok-present.ensures.grown in
    let corners = c.turn.new.swept.corners in
    let here : IsAt c.args.lp.now table corners c.loop-shape.present = at_grown _ _ _ _ _ grown c.loop-shape.invariant.3 in
    let first : HasFirst c.args.lp.now corners = first_grown _ _ _ grown c.loop-shape.invariant.6 in
    let short : TurnsShort c.loop-shape.dir next = record {
      turns = c.next_direction-next.ensures.turns;
      coprime = c.next_direction-next.ensures.coprime;
      short = λ full. let true_too = c.is_full_turn.ensures.1 full in absurd (cc);
    } in
    let bounding = rw (c.of-shape.ensures.rows, c.of-shape.ensures.cols) at c.next_direction-next.ensures.bounds in
    let turns_too = turned_on c.args.lp.now c.loop-shape.dir next table c.loop-shape.invariant.0 c.loop-shape.invariant.1
    c.next_direction-next.ensures.turns c.next_direction-next.ensures.coprime
    (λ full. let true_too = c.is_full_turn.ensures.1 full in absurd (cc)) in (
      c.in_ok-present.ensures.ready,
      c.in_ok-present.ensures.optimal,
      c.next_direction-next.ensures.coprime,
      c.in_ok-present.ensures.reached,
      c.in_ok-present.ensures.after,
      λ begins. steps_may c.args.lp.now (turning next) next (IsTurning c.args.lp.now next) table new (λ t row col step. inr step) refl
          (turns_too (c.loop-shape.invariant.5 begins)) c.in_ok-present.ensures.steps,
      first,
      goes_on c.loop-shape.swept c.turn.new.swept c.loop-shape.dir next c.loop-shape.present short grown c.loop-shape.invariant.7
          c.in_ok-present.present c.in_ok-present.ensures.turns
          (never_left c.args.lp.now table new next corners c.loop-shape.present c.in_ok-present.present
          c.next_direction-next.ensures.coprime c.loop-shape.invariant.0 bounding here
          c.in_ok-present.ensures.ready c.in_ok-present.ensures.optimal
          c.in_ok-present.ensures.reached c.in_ok-present.ensures.after.corners first)
          (met_below c.args.lp.now table new next corners c.loop-shape.present c.in_ok-present.present
          c.next_direction-next.ensures.coprime c.loop-shape.invariant.0 bounding here
          c.in_ok-present.ensures.ready c.in_ok-present.ensures.optimal
          c.in_ok-present.ensures.reached c.in_ok-present.ensures.after.corners first short.short),
    )

pub loop-shape-smaller : goal.loop-shape-smaller
loop-shape-smaller g c = rank_falls c.loop-shape.dir c.next_direction-next.result c.next_direction-next.ensures.turns
    c.next_direction-next.ensures.coprime (λ full. let true_too = c.is_full_turn.ensures.1 full in absurd (cc))

pub begin-requires-clause-coprime : goal.begin-requires-clause-coprime
begin-requires-clause-coprime g c = first_axis

pub begin-requires-clause-bounding : goal.begin-requires-clause-bounding
begin-requires-clause-bounding g c = λ col l. stays_over _ (λ low. c.in_ok-best.ensures.optimal col l (inl low))

pub returns-then-is_full_turn-clause-round : goal.returns-then-is_full_turn-clause-round
returns-then-is_full_turn-clause-round g c =
    goes_round c.loop-shape.swept c.in_ok-close.field-0 c.loop-shape.dir c.next_direction-next.result c.loop-shape.present
    c.next_direction-next.ensures.turns (c.is_full_turn.ensures.0 c.if-is_full_turn.true) c.in_ok-close.ensures.closes
    c.loop-shape.invariant.7
