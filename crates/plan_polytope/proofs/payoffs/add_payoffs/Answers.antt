-- A leaf's amounts are within 2^28, so n nodes raise no coefficient past n times that.
use Rattle.std.proofs.Common.{◌*◌, ◌^◌, slice_get, refl, arith}
use Rattle.corr_game.specs.declared.nodes.Node.TheVariants.{Leaf}
use Rattle.corr_game.specs.declared.sides.Side.TheVariants.{One, Two}
use Rattle.plan_polytope.proofs.Growing.{keeps-on, none_paid, nothing_paid, paid_less, paid_more}
use Rattle.plan_polytope.proofs.payoffs.add_payoffs.Goals as goal
use Rattle.plan_polytope.proofs.payoffs.add_payoffs.Goals.{in-Leaf+in_ok-add_leaf, in_default}

pub add_leaf-requires-clause-in_one : goal.add_leaf-requires-clause-in_one
add_leaf-requires-clause-in_one c = omega (arith, (c.requires.whose.sides One).per_node)

pub add_leaf-requires-clause-in_two : goal.add_leaf-requires-clause-in_two
add_leaf-requires-clause-in_two c = omega (arith, (c.requires.whose.sides Two).per_node)

pub add_leaf-requires-clause-first : goal.add_leaf-requires-clause-first
add_leaf-requires-clause-first c =
    (c.node.ensures.rules.each_node c.loop-n.n (Leaf c.in-Leaf.pay) (rw c.in-Leaf.is at c.node.ensures.item)).0

pub add_leaf-requires-clause-second : goal.add_leaf-requires-clause-second
add_leaf-requires-clause-second c =
    (c.node.ensures.rules.each_node c.loop-n.n (Leaf c.in-Leaf.pay) (rw c.in-Leaf.is at c.node.ensures.item)).1

pub loop-n-init : goal.loop-n-init
loop-n-init c = (
  λ side k. c.requires.before side k,
  record { columns = refl; rows = refl; rights = refl },
  λ side k. nothing_paid c.args.game.now c.args.pairs.now side k _ (c.requires.before side k),
)

pub loop-n-preserved : goal.loop-n-preserved
loop-n-preserved c =
    let before = c.loop-n.invariant in
    elim c.match-node.branch [
      | in-Leaf+in_ok-add_leaf w ↦
          rw w.lp-is (
            λ side k. omega (arith, w.in_ok-add_leaf.ensures.within (c.loop-n.n * 2 ^ 28) before.0 side k),
            keeps-on c.args.lp.now c.loop-n.lp w.add_leaf.new.lp before.1 w.in_ok-add_leaf.ensures.rows,
            λ side k. paid_more c.args.game.now c.args.pairs.now side k c.loop-n.n _ _ _ (before.2 side k) (w.in_ok-add_leaf.ensures.added side k) (rw w.in-Leaf.is at c.node.ensures.item),
          )
      | in_default w ↦ rw w.lp-is (
        λ side k. omega (arith, before.0 side k),
        before.1,
        λ side k. paid_less c.args.game.now c.args.pairs.now side k c.loop-n.n _ (before.2 side k) (none_paid c.args.pairs.now side k c.loop-n.n (slice_get c.args.game.now.nodes c.loop-n.n) c.node.result.now c.node.ensures.item w.in_default.not-Leaf),
      )
    ]
