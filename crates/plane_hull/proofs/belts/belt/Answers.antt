-- A belt has each side in turn and is whole, and what is so is one.
use Rattle.std.proofs.Common.{ℕ, inl, inr, refl, below_more, arith}
use Rattle.plane_hull.specs.BeltFault.{IsInTurn}
use Rattle.plane_hull.proofs.WholeBelt.{belt_from, turn_of, whole_of}
use Rattle.plane_hull.proofs.belts.belt.Goals as goal

pub returns-then-not-is_in_turn-clause-is_belt : goal.returns-then-not-is_in_turn-clause-is_belt
returns-then-not-is_in_turn-clause-is_belt c = (
  λ t. absurd (cc),
  λ belt. let yes = c.is_in_turn.ensures.1 (turn_of c.args.points.now c.args.sides.now belt c.loop-side.side) in cc (yes, c.if-not-is_in_turn.true),
)

pub returns-then-not-is_in_turn-clause-fault : goal.returns-then-not-is_in_turn-clause-fault
returns-then-not-is_in_turn-clause-fault c = record {
  no_belt = λ belt. let yes = c.is_in_turn.ensures.1 (turn_of c.args.points.now c.args.sides.now belt c.loop-side.side) in absurd (cc (yes, c.if-not-is_in_turn.true));
  earlier = c.loop-side.invariant;
  here = inr (omega arith, λ turn. let yes = c.is_in_turn.ensures.1 turn in absurd (cc (yes, c.if-not-is_in_turn.true)));
}

pub loop-side-preserved : goal.loop-side-preserved
loop-side-preserved c =
    below_more (λ (k : ℕ). IsInTurn c.args.points.now c.args.sides.now k) c.loop-side.side c.loop-side.invariant
    (c.is_in_turn.ensures.0 c.if-not-is_in_turn.false)

pub returns-then-is_whole-clause-is_belt : goal.returns-then-is_whole-clause-is_belt
returns-then-is_whole-clause-is_belt c =
    (λ t. belt_from c.args.points.now c.args.sides.now (λ k inside. c.loop-side.invariant k (omega arith)) (c.is_whole.ensures.0 c.if-is_whole.true), λ belt. refl)

pub returns-else-is_whole-clause-is_belt : goal.returns-else-is_whole-clause-is_belt
returns-else-is_whole-clause-is_belt c = (
  λ t. absurd (cc),
  λ belt. let yes = c.is_whole.ensures.1 (whole_of c.args.points.now c.args.sides.now belt) in cc (yes, c.if-is_whole.false),
)

pub returns-else-is_whole-clause-fault : goal.returns-else-is_whole-clause-fault
returns-else-is_whole-clause-fault c = record {
  no_belt = λ belt. let yes = c.is_whole.ensures.1 (whole_of c.args.points.now c.args.sides.now belt) in absurd (cc (yes, c.if-is_whole.false));
  earlier = λ k inside. c.loop-side.invariant k (omega arith);
  here = inl (omega arith);
}
