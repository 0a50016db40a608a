-- No node before the one that is told is forgotten by its player, nor by the other, whose own comes later.
use Rattle.std.proofs.Common.{arith}
use Rattle.corr_game.specs.declared.sides.Side.TheVariants.{One, Two}
use Rattle.tree_recall.proofs.Firsts.{fewer_forgotten, told_one, told_two}
use Rattle.tree_recall.proofs.recalls.earlier.Goals as goal

pub returns-then-b-a-clause-least : goal.returns-then-b-a-clause-least
returns-then-b-a-clause-least c = λ g h k.
    let one = c.in-Forgets in
    let two = c.in-Forgets-two in
    let first = rw one.is at h in
    rw two.is (told_two g two.side two.set two.first two.b (rw two.is at k) (fewer_forgotten g One one.a two.b (omega arith) first.2))

pub returns-else-b-a-clause-least : goal.returns-else-b-a-clause-least
returns-else-b-a-clause-least c = λ g h k.
    let one = c.in-Forgets in
    let two = c.in-Forgets-two in
    let second = rw two.is at k in
    rw one.is (told_one g one.side one.set one.first one.a (rw one.is at h) (fewer_forgotten g Two two.b one.a (omega arith) second.2))
