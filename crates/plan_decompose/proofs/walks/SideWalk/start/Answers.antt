-- Nothing is chosen, and the sets with an empty own sequence are open.
use Rattle.std.proofs.Common.{rules}
use Rattle.plan_decompose.proofs.Parts.{start_fresh, start_part}
use Rattle.plan_decompose.proofs.walks.SideWalk.start.Goals as goal

pub returns-clause-walk : goal.returns-clause-walk
returns-clause-walk c =
    let side = c.args.side in
    let none = c.in_ok-actions.ensures.items_if_clones_equal (λ y h. search rules) in
    let closed = c.in_ok-beside.ensures.items_if_clones_equal (λ y h. search rules) in
    rw none
    (start_part side c.args.game.now c.args.pairs.now (c.requires.sides side) c.sets-sets.result c.open_after.new.beside.items c.sets-sets.ensures.count (rw closed at c.open_after.ensures))

pub returns-clause-fresh : goal.returns-clause-fresh
returns-clause-fresh c =
    let side = c.args.side in
    let none = c.in_ok-actions.ensures.items_if_clones_equal (λ y h. search rules) in
    let closed = c.in_ok-beside.ensures.items_if_clones_equal (λ y h. search rules) in
    rw none
    (start_fresh side c.args.game.now c.args.pairs.now (c.requires.sides side) c.sets-sets.result c.open_after.new.beside.items c.sets-sets.ensures.count (rw closed at c.open_after.ensures))
