-- The choice keeps the player's part, and the set had no action.
use Rattle.plan_decompose.proofs.Parts.{chosen_part}
use Rattle.plan_decompose.proofs.Walking.{one_chosen}
use Rattle.plan_decompose.proofs.walks.SideWalk.choose.Goals as goal

pub returns-clause-walk : goal.returns-clause-walk
returns-clause-walk c =
    let at = c.args.at in
    let old = c.args.self.now in
    chosen_part at.side c.args.game.now c.args.pairs.now (c.requires.whose.sides at.side) (c.requires.rules.sides at.side) old.actions.items old.beside.items c.open_after.new.beside.items at.set at.beside c.args.action c.args.seq
    c.requires.before c.requires.is_open c.requires.named c.requires.numbered c.open_after.ensures

pub returns-clause-fewer : goal.returns-clause-fewer
returns-clause-fewer c =
    let at = c.args.at in
    let here = c.requires.before.waiting at.set.0 at.beside c.requires.numbered.0 c.requires.numbered.1 c.requires.is_open in
    one_chosen c.args.self.now.actions.items at.set.0 c.args.action here.1
