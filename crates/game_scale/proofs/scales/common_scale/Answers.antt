-- At a leaf the scale becomes the least common multiple with its denominator, and elsewhere it stays.
use Rattle.std.proofs.Common.{rules, FitsSigned, refl, arith}
use Rattle.std.specs.Int.{w64, w128}
use Rattle.std.proofs.lemmas.Int.{to_z-of_z, to_z_pos}
use Rattle.game_scale.proofs.CommonScale.{IsLeafAt, common_start, common_other, common_leaf, common_none, common_done}
use Rattle.game_scale.proofs.ScaledNodes.{found}
use Rattle.game_scale.proofs.scales.common_scale.Goals as goal
use Rattle.game_scale.proofs.scales.common_scale.Goals.{in-Leaf+in_ok-scale, in_default}

pub loop-n-init : goal.loop-n-init
loop-n-init c = record { common = common_start c.args.side c.args.game.now.nodes c.args.paths.now; within = omega arith }

pub returns-in_err-scale-clause-none : goal.returns-in_err-scale-clause-none
returns-in_err-scale-clause-none c = λ e.
    let fits : FitsSigned w128 c.den.result = search rules in
    let size = simp to_z-of_z at c.unsigned_abs-den.ensures.value in
    let den = rw c.den.ensures.value at size in
    let none = rw den at (c.in_err-scale.ensures.none refl) in
    let at : IsLeafAt c.args.side c.args.game.now.nodes c.args.paths.now c.loop-n.n c.weighted.result = record {
      node = c.node.result.now;
      path = c.index-paths-n.result;
      here = c.node.ensures.item;
      leaf = c.in-Leaf.is;
      reached = found c.args.paths.now c.loop-n.n c.loop-n.n c.index-paths-n.result refl (omega arith) c.index-paths-n.is;
      rules = c.weighted.ensures.rules;
      number = c.weighted.ensures.number;
    } in
    common_none c.args.side c.args.game.now.nodes c.args.paths.now c.loop-n.n c.loop-n.scale c.weighted.result at (omega arith) c.loop-n.invariant.common none

pub loop-n-preserved : goal.loop-n-preserved
loop-n-preserved c =
    elim c.match-node.branch [
      | in-Leaf+in_ok-scale w ↦
          let fits : FitsSigned w128 w.den.result = search rules in
          let size = simp to_z-of_z at w.unsigned_abs-den.ensures.value in
          let den = rw w.den.ensures.value at size in
          let lcm = rw den at w.in_ok-scale.ensures.least in
          let at : IsLeafAt c.args.side c.args.game.now.nodes c.args.paths.now c.loop-n.n w.weighted.result = record {
            node = c.node.result.now;
            path = w.index-paths-n.result;
            here = c.node.ensures.item;
            leaf = w.in-Leaf.is;
            reached = found c.args.paths.now c.loop-n.n c.loop-n.n w.index-paths-n.result refl (omega arith) w.index-paths-n.is;
            rules = w.weighted.ensures.rules;
            number = w.weighted.ensures.number;
          } in
          rw w.scale-is (record {
            common = common_leaf c.args.side c.args.game.now.nodes c.args.paths.now c.loop-n.n c.loop-n.scale _ w.weighted.result at lcm w.in_ok-scale.ensures.within.0 c.loop-n.invariant.common;
            within = w.in_ok-scale.ensures.within.1;
          })
      | in_default w ↦
          rw w.scale-is (record {
            common = common_other c.args.side c.args.game.now.nodes c.args.paths.now c.loop-n.n c.loop-n.scale c.node.result.now c.node.ensures.item w.in_default.not-Leaf c.loop-n.invariant.common;
            within = c.loop-n.invariant.within;
          })
    ]

pub returns-clause-least : goal.returns-clause-least
returns-clause-least c =
    rw (to_z_pos w64 c.loop-n.scale (omega arith)) (common_done c.args.side c.args.game.now.nodes c.args.paths.now c.loop-n.n c.loop-n.scale (omega arith) c.loop-n.invariant.common)
