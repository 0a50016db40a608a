-- There are at most 4096 leaves.
use Rattle.std.proofs.Common.{◌≡◌, ◌^◌, length, arith}
use Rattle.corr_game.specs.declared.nodes.Node.TheVariants.{Leaf}
use Rattle.incentive_rows.specs.Coefficient.{IsLeafTerm}
use Rattle.incentive_rows.proofs.Coefficients.{other_node}
use Rattle.incentive_rows.proofs.Growing.{grows-on, grows-none}
use Rattle.incentive_rows.proofs.Terms.{changes_as, changes_more, changes_none}
use Rattle.incentive_rows.proofs.leaves.add_leaves.Goals as goal
use Rattle.incentive_rows.proofs.leaves.add_leaves.Goals.{in-Leaf+in_ok-add_leaf, in_default}

pub paid_at-paid-requires-clause-first : goal.paid_at-paid-requires-clause-first
paid_at-paid-requires-clause-first c =
    (c.node.ensures.rules.each_node c.loop-n.n (Leaf c.in-Leaf.pay) (rw c.in-Leaf.is at c.node.ensures.item)).0

pub paid_at-paid-requires-clause-second : goal.paid_at-paid-requires-clause-second
paid_at-paid-requires-clause-second c =
    (c.node.ensures.rules.each_node c.loop-n.n (Leaf c.in-Leaf.pay) (rw c.in-Leaf.is at c.node.ensures.item)).1

pub add_leaf-requires-clause-before : goal.add_leaf-requires-clause-before
add_leaf-requires-clause-before c = λ r k.
    omega (arith, c.node.ensures.rules.at_most, c.loop-n.invariant.0.within (2 ^ 41) c.requires.before r k)

pub loop-n-preserved : goal.loop-n-preserved
loop-n-preserved c =
    let part = IsLeafTerm c.args.game.now c.args.pairs.now c.args.trigger.now c.args.places.now.sets.items c.args.places.now.rows in
    elim c.match-node.branch [
      | in-Leaf+in_ok-add_leaf w ↦ rw w.lp-is (
        grows-on _ c.loop-n.invariant.0 w.in_ok-add_leaf.ensures.grows (omega arith),
        changes_more (λ r k. part r k) c.loop-n.n c.loop-n.invariant.1 (changes_as w.in_ok-add_leaf.ensures.changes (λ r k v t. (Leaf w.in-Leaf.pay, rw w.in-Leaf.is at c.node.ensures.item, rw w.paid_at-paid.ensures.leaf at t))),
      )
      | in_default w ↦ rw w.lp-is (
        grows-on _ c.loop-n.invariant.0 (grows-none 0 _) (omega arith),
        changes_more (λ r k. part r k) c.loop-n.n c.loop-n.invariant.1 (changes_none (λ r k. part r k c.loop-n.n) c.loop-n.lp (λ r k. (c.node.result.now, c.node.ensures.item, other_node c.args.pairs.now c.args.trigger.now c.args.places.now.sets.items c.args.places.now.rows c.loop-n.n c.node.result.now r k w.in_default.not-Leaf))),
      )
    ]

pub returns-clause-changes : goal.returns-clause-changes
returns-clause-changes c =
    let all : c.loop-n.n ≡ length c.args.game.now.nodes = omega arith in
    rw (← all) c.loop-n.invariant.1

pub returns-clause-grows : goal.returns-clause-grows
returns-clause-grows c = grows-on (2 ^ 41) c.loop-n.invariant.0 (grows-none 0 _) (omega (arith, c.len-n-end.ensures.rules.at_most))
