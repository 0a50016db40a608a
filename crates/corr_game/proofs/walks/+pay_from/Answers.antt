-- Each arm is the walk's step at its node; the sums over a chance node's kids stay far within 128 bits.
use Rattle.std.proofs.Common.{sym, ◌∙◌, arith}
use Rattle.std.proofs.lemmas.Int.{ints}
use Rattle.corr_game.specs.declared.nodes.Node.TheVariants.{Leaf}
use Rattle.corr_game.specs.declared.sides.Side.TheVariants.{One, Two}
use Rattle.corr_game.proofs.WalkSteps.{chance-kid, choice-kid, leaf-pay, sum-bound, sum-step, sum-whole, plan-covers, action-in_range, choice-none, choice-some}
use Rattle.corr_game.proofs.walks.+pay_from.Goals as goal

pub pay_from-paid-requires : goal.pay_from-paid-requires
pay_from-paid-requires t c =
    let node = rw c.in-Chance.is at c.node.ensures.item in
    let kid = chance-kid _ c.node.ensures.rules c.args.n c.in-Chance.kids c.loop-k.k node (omega arith) in
    (omega arith, (c.requires.plan_one, (c.requires.plan_two, omega arith)))

pub overflow_add-sum : goal.overflow_add-sum
overflow_add-sum t c =
    let node = rw c.in-Chance.is at c.node.ensures.item in
    let bound = sum-bound One _ c.node.ensures.rules c.args.one.now c.args.two.now c.args.n c.in-Chance.kids c.loop-k.k c.loop-k.sum.one c.pay_from-paid.result.one node (omega arith) c.loop-k.invariant.0 (rw c.at.ensures.item at c.pay_from-paid.ensures.first) in
    omega (arith, ints)

pub overflow_add-sum-in-loop-k : goal.overflow_add-sum-in-loop-k
overflow_add-sum-in-loop-k t c =
    let node = rw c.in-Chance.is at c.node.ensures.item in
    let bound = sum-bound Two _ c.node.ensures.rules c.args.one.now c.args.two.now c.args.n c.in-Chance.kids c.loop-k.k c.loop-k.sum.two c.pay_from-paid.result.two node (omega arith) c.loop-k.invariant.1 (rw c.at.ensures.item at c.pay_from-paid.ensures.second) in
    omega (arith, ints)

pub loop-k-preserved : goal.loop-k-preserved
loop-k-preserved t c =
    let node = rw c.in-Chance.is at c.node.ensures.item in
    let g = c.args.game.now in
    let one = c.args.one.now in
    let two = c.args.two.now in
    let kids = c.in-Chance.kids in
    let k = c.loop-k.k in
    let first = rw c.at.ensures.item at c.pay_from-paid.ensures.first in
    let second = rw c.at.ensures.item at c.pay_from-paid.ensures.second in
    let bound_one = sum-bound One g c.node.ensures.rules one two c.args.n kids k c.loop-k.sum.one c.pay_from-paid.result.one node (omega arith) c.loop-k.invariant.0 first in
    let bound_two = sum-bound Two g c.node.ensures.rules one two c.args.n kids k c.loop-k.sum.two c.pay_from-paid.result.two node (omega arith) c.loop-k.invariant.1 second in
    let step_one = sum-step One g one two kids k c.loop-k.sum.one c.pay_from-paid.result.one (omega arith) c.loop-k.invariant.0 first in
    let step_two = sum-step Two g one two kids k c.loop-k.sum.two c.pay_from-paid.result.two (omega arith) c.loop-k.invariant.1 second in
    (omega (arith, ints), omega (arith, ints))

pub at-requires-in-Choice : goal.at-requires-in-Choice
at-requires-in-Choice t c =
    let node = rw c.in-Choice.is at c.node.ensures.item in
    plan-covers _ c.node.ensures.rules _ _ c.requires.plan_one c.requires.plan_two c.args.n c.in-Choice.side c.in-Choice.set c.in-Choice.kids node _ c.mover_plan.ensures

pub at-requires-in-Some : goal.at-requires-in-Some
at-requires-in-Some t c =
    let node = rw c.in-Choice.is at c.node.ensures.item in
    action-in_range _ c.node.ensures.rules _ _ c.requires.plan_one c.requires.plan_two c.args.n c.in-Choice.side c.in-Choice.set c.in-Choice.kids node _ c.mover_plan.ensures c.in-Some.action c.in-Some.ensures.entry

pub pay_from-requires : goal.pay_from-requires
pay_from-requires t c =
    let node = rw c.in-Choice.is at c.node.ensures.item in
    let kids = c.in-Choice.kids in
    let range = action-in_range _ c.node.ensures.rules _ _ c.requires.plan_one c.requires.plan_two c.args.n c.in-Choice.side c.in-Choice.set kids node _ c.mover_plan.ensures c.in-Some.action c.in-Some.ensures.entry in
    let kid = choice-kid _ c.node.ensures.rules c.args.n c.in-Choice.side c.in-Choice.set kids c.in-Some.action node range in
    (omega arith, (c.requires.plan_one, (c.requires.plan_two, omega arith)))

pub returns-in-Leaf-clause-first : goal.returns-in-Leaf-clause-first
returns-in-Leaf-clause-first t c =
    let node = rw c.in-Leaf.is at c.node.ensures.item in
    let pay = leaf-pay One _ c.node.ensures.rules c.args.one.now c.args.two.now c.args.n c.in-Leaf.pay node in
    let bound = c.node.ensures.rules.each_node c.args.n (Leaf c.in-Leaf.pay) node in
    omega (arith, ints)

pub returns-in-Leaf-clause-second : goal.returns-in-Leaf-clause-second
returns-in-Leaf-clause-second t c =
    let node = rw c.in-Leaf.is at c.node.ensures.item in
    let pay = leaf-pay Two _ c.node.ensures.rules c.args.one.now c.args.two.now c.args.n c.in-Leaf.pay node in
    let bound = c.node.ensures.rules.each_node c.args.n (Leaf c.in-Leaf.pay) node in
    omega (arith, ints)

pub returns-after-loop-k-clause-first : goal.returns-after-loop-k-clause-first
returns-after-loop-k-clause-first t c =
    let node = rw c.in-Chance.is at c.node.ensures.item in
    sum-whole One _ c.node.ensures.rules _ _ c.args.n c.in-Chance.kids c.loop-k.k _ node (omega arith) c.loop-k.invariant.0

pub returns-after-loop-k-clause-second : goal.returns-after-loop-k-clause-second
returns-after-loop-k-clause-second t c =
    let node = rw c.in-Chance.is at c.node.ensures.item in
    sum-whole Two _ c.node.ensures.rules _ _ c.args.n c.in-Chance.kids c.loop-k.k _ node (omega arith) c.loop-k.invariant.1

pub returns-in-None-clause-first : goal.returns-in-None-clause-first
returns-in-None-clause-first t c =
    let node = rw c.in-Choice.is at c.node.ensures.item in
    sym (choice-none One _ c.node.ensures.rules _ _ c.args.n c.in-Choice.side c.in-Choice.set c.in-Choice.kids node _ c.mover_plan.ensures c.in-None.ensures.entry)

pub returns-in-None-clause-second : goal.returns-in-None-clause-second
returns-in-None-clause-second t c =
    let node = rw c.in-Choice.is at c.node.ensures.item in
    sym (choice-none Two _ c.node.ensures.rules _ _ c.args.n c.in-Choice.side c.in-Choice.set c.in-Choice.kids node _ c.mover_plan.ensures c.in-None.ensures.entry)

pub returns-in-Some-clause-first : goal.returns-in-Some-clause-first
returns-in-Some-clause-first t c =
    let node = rw c.in-Choice.is at c.node.ensures.item in
    let kids = c.in-Choice.kids in
    let range = action-in_range _ c.node.ensures.rules _ _ c.requires.plan_one c.requires.plan_two c.args.n c.in-Choice.side c.in-Choice.set kids node _ c.mover_plan.ensures c.in-Some.action c.in-Some.ensures.entry in
    let walked = choice-some One _ c.node.ensures.rules _ _ c.args.n c.in-Choice.side c.in-Choice.set kids node _ c.mover_plan.ensures c.in-Some.action c.in-Some.ensures.entry range in
    rw c.at-in-Some.ensures.item at c.pay_from.ensures.first ∙ sym walked

pub returns-in-Some-clause-second : goal.returns-in-Some-clause-second
returns-in-Some-clause-second t c =
    let node = rw c.in-Choice.is at c.node.ensures.item in
    let kids = c.in-Choice.kids in
    let range = action-in_range _ c.node.ensures.rules _ _ c.requires.plan_one c.requires.plan_two c.args.n c.in-Choice.side c.in-Choice.set kids node _ c.mover_plan.ensures c.in-Some.action c.in-Some.ensures.entry in
    let walked = choice-some Two _ c.node.ensures.rules _ _ c.args.n c.in-Choice.side c.in-Choice.set kids node _ c.mover_plan.ensures c.in-Some.action c.in-Some.ensures.entry range in
    rw c.at-in-Some.ensures.item at c.pay_from.ensures.second ∙ sym walked
