-- Each answer is the step of the walk at its node.
use Rattle.std.proofs.Common.{true, false, get_or, refl, sym, ◌∙◌, arith}
use Rattle.std.proofs.lemmas.Bool.{and_left, and_right}
use Rattle.equilibrium.specs.Reach.{allows, comes_to}
use Rattle.plain_programs.proofs.Leading.{comes_at_once, comes_by_kids, kid_found, kid_inside, kid_passed, no_kid_left, set_inside}
use Rattle.plain_programs.proofs.plans.+leads_from.Goals as goal
use Rattle.plain_programs.proofs.plans.+leads_from.Goals.{else-allows-via-then-allows+else-leads_from, else-allows-via-else-allows}

pub returns-then-is_of_set : goal.returns-then-is_of_set
returns-then-is_of_set t c =
    comes_at_once (allows c.args.side c.args.plan.now) c.args.side c.args.game.now c.node-node.ensures.rules c.args.set.0 c.args.n _ c.node-node.ensures.item
    (sym c.is_of_set.ensures ∙ c.if-is_of_set.true)

pub returns-in_default : goal.returns-in_default
returns-in_default t c =
    comes_by_kids (allows c.args.side c.args.plan.now) c.args.side c.args.game.now c.node-node.ensures.rules c.args.set.0 c.args.n _ c.node-node.ensures.item
    (sym c.is_of_set.ensures ∙ c.if-is_of_set.false) _ (sym c.in_default.ensures.none) false refl

pub allows-requires : goal.allows-requires
allows-requires t c =
    record {
      covered = λ set e. rw c.requires.per_set
          (set_inside c.args.side c.args.game.now c.args.n _
          (c.node-node.ensures.rules.each_node c.args.n _ c.node-node.ensures.item) set e);
    }

pub leads_from-requires : goal.leads_from-requires
leads_from-requires t c =
    let kid = kid_inside c.args.game.now c.node-node.ensures.rules c.args.n _ c.node-node.ensures.item c.in-Some.kids.now c.in-Some.ensures.some c.loop-k.k (omega arith) in
    (omega arith, (c.requires.per_set, omega arith))

pub returns-then-leads_from : goal.returns-then-leads_from
returns-then-leads_from t c =
    let allowed = allows c.args.side c.args.plan.now c.node-node.result.now in
    let comes = comes_to (allows c.args.side c.args.plan.now) c.args.side c.args.game.now c.args.set.0 in
    comes_by_kids (allows c.args.side c.args.plan.now) c.args.side c.args.game.now c.node-node.ensures.rules c.args.set.0 c.args.n _ c.node-node.ensures.item
    (sym c.is_of_set.ensures ∙ c.if-is_of_set.false) c.in-Some.kids.now c.in-Some.ensures.some true
    (kid_found allowed comes c.in-Some.kids.now c.loop-k.k (omega arith) c.loop-k.invariant (sym c.allows.ensures ∙ c.if-allows.true)
    (rw c.at.ensures.item at (sym c.leads_from.ensures ∙ c.if-leads_from.true)))

pub loop-k-preserved : goal.loop-k-preserved
loop-k-preserved t c =
    let allowed = allows c.args.side c.args.plan.now c.node-node.result.now in
    let comes = comes_to (allows c.args.side c.args.plan.now) c.args.side c.args.game.now c.args.set.0 in
    kid_passed allowed comes c.in-Some.kids.now c.loop-k.k (omega arith) c.loop-k.invariant
    (elim c.else-allows.branch [
      | else-allows-via-then-allows+else-leads_from w ↦ and_right (allowed c.loop-k.k)
          (comes (get_or c.in-Some.kids.now c.loop-k.k 0)) (rw w.at.ensures.item at (sym w.leads_from.ensures ∙ w.if-leads_from.false))
      | else-allows-via-else-allows w ↦ and_left (allowed c.loop-k.k) (comes (get_or c.in-Some.kids.now c.loop-k.k 0))
          (sym c.allows.ensures ∙ w.if-allows.false)
    ])

pub returns : goal.returns
returns t c =
    let allowed = allows c.args.side c.args.plan.now c.node-node.result.now in
    let comes = comes_to (allows c.args.side c.args.plan.now) c.args.side c.args.game.now c.args.set.0 in
    comes_by_kids (allows c.args.side c.args.plan.now) c.args.side c.args.game.now c.node-node.ensures.rules c.args.set.0 c.args.n _ c.node-node.ensures.item
    (sym c.is_of_set.ensures ∙ c.if-is_of_set.false) c.in-Some.kids.now c.in-Some.ensures.some false
    (no_kid_left allowed comes c.in-Some.kids.now c.loop-k.k (omega arith) c.loop-k.invariant)
