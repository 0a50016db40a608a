-- The rules on the whole are kept where each test says so.
use Rattle.std.proofs.Common.{◌≡◌, suc, ◌-◌, length, arith}
use Rattle.plane_hull.proofs.Reading.{closing}
use Rattle.plane_hull.proofs.belts.is_whole.Goals as goal

pub returns-then-not-may_follow : goal.returns-then-not-may_follow
returns-then-not-may_follow c = (
  λ t. absurd (cc),
  λ whole.
      let some = c.if-count-eq0.false in
      let last : suc (c.len-count.result - 1) ≡ length c.args.sides.now = omega (arith, c.len-count.ensures.count) in
      let yes = c.may_follow.ensures.1 (whole.closes (c.len-count.result - 1) _ _ last c.at.ensures.item c.at-2.ensures.item) in
      cc (yes, c.if-not-may_follow.true),
)

pub returns-then-goes_round_once : goal.returns-then-goes_round_once
returns-then-goes_round_once c = (
  λ t. record {
    axes = c.has_axes.ensures.0 c.if-not-has_axes.false;
    closes = closing c.args.points.now c.args.sides.now c.len-count.result _ _ c.len-count.ensures.count c.if-count-eq0.false c.at.ensures.item c.at-2.ensures.item
        (c.may_follow.ensures.0 c.if-not-may_follow.false);
    once = c.goes_round_once.ensures.0 c.if-goes_round_once.true;
    pairs = c.all_pair_up.ensures.0 t;
  },
  λ whole. c.all_pair_up.ensures.1 whole.pairs,
)
