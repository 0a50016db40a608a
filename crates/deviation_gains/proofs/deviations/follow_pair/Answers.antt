-- Amounts are within 2^28; a leaf pays its amount where both plans lead there past the trigger, another node nothing.
use Rattle.std.proofs.Common.{rules, ◌≡◌, ◌*ℤ◌, ◌<◌, cond, pos, ap, length, slice_get, FitsSigned, arith}
use Rattle.std.specs.Int.{w128}
use Rattle.std.proofs.lemmas.Int.{to_z-of_z}
use Rattle.corr_game.specs.declared.nodes.Node.TheVariants.{Leaf}
use Rattle.corr_game.specs.Node.{amount_of}
use Rattle.corr_game.specs.Plan.{plan_of}
use Rattle.connected_pairs.specs.Connected.{other}
use Rattle.equilibrium.specs.Leaves.{leaf_amount}
use Rattle.deviation_gains.specs.Leaving.{paid_in_pair}
use Rattle.deviation_gains.proofs.GainFollowed.{no_more, none_yet, one_more}
use Rattle.deviation_gains.proofs.LeftPairs.{amount_nowhere, no_leaf}
use Rattle.deviation_gains.proofs.deviations.follow_pair.Goals as goal
use Rattle.deviation_gains.proofs.deviations.follow_pair.Goals.{in-Leaf, in_default}

pub follow_leaf-total-requires-clause-first : goal.follow_leaf-total-requires-clause-first
follow_leaf-total-requires-clause-first c =
    (c.node.ensures.rules.each_node c.loop-n.n (Leaf c.in-Leaf.pay) (rw c.in-Leaf.is at c.node.ensures.item)).0

pub follow_leaf-total-requires-clause-second : goal.follow_leaf-total-requires-clause-second
follow_leaf-total-requires-clause-second c =
    (c.node.ensures.rules.each_node c.loop-n.n (Leaf c.in-Leaf.pay) (rw c.in-Leaf.is at c.node.ensures.item)).1

pub loop-n-init : goal.loop-n-init
loop-n-init c = (
  omega arith,
  λ passes tells. none_yet _ (λ n. paid_in_pair c.args.trigger.now.side c.args.game.now passes c.args.pair.now n),
)

pub loop-n-preserved : goal.loop-n-preserved
loop-n-preserved c =
    let g = c.args.game.now in
    let side = c.args.trigger.now.side in
    let pair = c.args.pair.now in
    let n = c.loop-n.n in
    let low : n < length g.nodes = search rules in
    elim c.match-node.branch [
      | in-Leaf w ↦
          let r = w.follow_leaf-total.result in
          let fits : FitsSigned w128 r = search rules in
          rw (w.total-is, to_z-of_z w128 r fits) (
            omega (arith, w.follow_leaf-total.ensures.bound, c.loop-n.invariant.0),
            λ passes tells.
                let mine = plan_of side pair.one pair.two in
                let theirs = plan_of (other side) pair.one pair.two in
                let amount = amount_of side w.in-Leaf.pay in
                let weight = cond (passes n mine theirs) pair.weight (pos 0) in
                let at = rw w.in-Leaf.is at c.node.ensures.item in
                let pays : leaf_amount side (slice_get g.nodes n) ≡ amount = ap (leaf_amount side) at in
                one_more _ _ r (amount *ℤ weight) (λ k. paid_in_pair side g passes pair k) n (c.loop-n.invariant.1 passes tells)
                (w.follow_leaf-total.ensures.value (passes n mine theirs) (tells n low mine theirs)) (ap (λ z. z *ℤ weight) pays),
          )
      | in_default w ↦
          rw w.total-is (
            omega (arith, c.loop-n.invariant.0),
            λ passes tells. no_more _ _ (λ k. paid_in_pair side g passes pair k) n (c.loop-n.invariant.1 passes tells)
                (amount_nowhere side (slice_get g.nodes n) _
                (no_leaf side (slice_get g.nodes n) _ c.node.ensures.item w.in_default.not-Leaf)),
          )
    ]
