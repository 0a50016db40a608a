-- Amounts are within 2^28; a leaf pays its amount where the other's plan plays its sequence, another node nothing.
use Rattle.std.proofs.Common.{rules, ◌≡◌, ◌*ℤ◌, cond, pos, refl, ap, arith, length, slice_get, ◌<◌}
use Rattle.corr_game.specs.declared.nodes.Node.TheVariants.{Leaf}
use Rattle.corr_game.specs.Node.{amount_of}
use Rattle.corr_game.specs.Plan.{plan_of}
use Rattle.sequences.specs.Number.{Plays, side_of}
use Rattle.connected_pairs.specs.Connected.{other}
use Rattle.equilibrium.specs.Leaves.{leaf_amount}
use Rattle.deviation_gains.specs.Leaving.{paid_in_pair}
use Rattle.deviation_gains.proofs.LeftPairs.{amount_nowhere, grown_more, grown_no_more, grown_not_yet, grown_nothing, no_leaf, pays_nothing}
use Rattle.deviation_gains.proofs.LeftPairs.{tells_other}
use Rattle.deviation_gains.proofs.deviations.add_pair.Goals as goal
use Rattle.deviation_gains.proofs.deviations.add_pair.Goals.{in-Leaf, in_default}

pub add_leaf-requires-clause-first : goal.add_leaf-requires-clause-first
add_leaf-requires-clause-first c =
    (c.node.ensures.rules.each_node c.loop-n.n (Leaf c.in-Leaf.pay) (rw c.in-Leaf.is at c.node.ensures.item)).0

pub add_leaf-requires-clause-second : goal.add_leaf-requires-clause-second
add_leaf-requires-clause-second c =
    (c.node.ensures.rules.each_node c.loop-n.n (Leaf c.in-Leaf.pay) (rw c.in-Leaf.is at c.node.ensures.item)).1

pub loop-n-init : goal.loop-n-init
loop-n-init c = (
  refl,
  omega arith,
  λ passes tells. grown_not_yet (side_of c.args.trigger.now.side c.args.pairs.now.seqs).nodes
      (paid_in_pair c.args.trigger.now.side c.args.game.now passes c.args.pair.now) c.args.left.now.items,
)

pub loop-n-preserved : goal.loop-n-preserved
loop-n-preserved c =
    let s = c.args.pairs.now.seqs in
    let g = c.args.game.now in
    let side = c.args.trigger.now.side in
    let pair = c.args.pair.now in
    let nodes = (side_of side s).nodes in
    let n = c.loop-n.n in
    let low : n < length g.nodes = search rules in
    let plays : Plays (side_of side s) (plan_of side pair.one pair.two) c.args.trigger.now.seq = search rules in
    elim c.match-node.branch [
      | in-Leaf w ↦
          rw w.left-is (
            omega (arith, w.add_leaf.ensures.count, c.loop-n.invariant.0),
            omega (arith, w.add_leaf.ensures.bound, c.loop-n.invariant.1),
            λ passes tells.
                let at = rw w.in-Leaf.is at c.node.ensures.item in
                let pays : leaf_amount side (slice_get g.nodes n) ≡ amount_of side w.in-Leaf.pay = ap (leaf_amount side) at in
                let test = passes n (plan_of side pair.one pair.two) (plan_of (other side) pair.one pair.two) in
                grown_more nodes (paid_in_pair side g passes pair) n (amount_of side w.in-Leaf.pay *ℤ cond test pair.weight (pos 0)) _ _ _
                c.loop-n.invariant.0 (ap (λ z. z *ℤ cond test pair.weight (pos 0)) pays) (c.loop-n.invariant.2 passes tells)
                (w.add_leaf.ensures.sums test (tells_other s side c.args.trigger.now.seq g (length g.nodes) passes tells pair plays n low)),
          )
      | in_default w ↦
          rw w.left-is (
            c.loop-n.invariant.0,
            omega (arith, c.loop-n.invariant.1),
            λ passes tells. grown_no_more nodes (paid_in_pair side g passes pair) n _ _
                (amount_nowhere side (slice_get g.nodes n) _
                (no_leaf side (slice_get g.nodes n) _ c.node.ensures.item w.in_default.not-Leaf))
                (c.loop-n.invariant.2 passes tells),
          )
    ]

pub returns-else-plays-clause-sums : goal.returns-else-plays-clause-sums
returns-else-plays-clause-sums c = λ passes tells.
    let s = c.args.pairs.now.seqs in
    let side = c.args.trigger.now.side in
    let pair = c.args.pair.now in
    let away : Plays (side_of side s) (plan_of side pair.one pair.two) c.args.trigger.now.seq → ⊥ = search rules in
    grown_nothing (side_of side s).nodes (paid_in_pair side c.args.game.now passes pair) (length c.args.game.now.nodes)
    c.args.left.now.items (pays_nothing s side c.args.trigger.now.seq c.args.game.now (length c.args.game.now.nodes) passes tells pair away)
