-- There are no more sets than nodes.
use Rattle.std.proofs.Common.{length, arith}
use Rattle.corr_game.specs.declared.sides.Side.TheVariants.{One, Two}
use Rattle.corr_game.proofs.SetCount.{count_at_most}
use Rattle.corr_game.proofs.games.Game.sets.Goals as goal

pub overflow_cast-result : goal.overflow_cast-result
overflow_cast-result c =
    let g = c.self.inside in
    omega (arith, count_at_most One 0 g.nodes.items (length g.one.items) (c.self.invariant.in_order One))

pub overflow_cast-result-in-Two : goal.overflow_cast-result-in-Two
overflow_cast-result-in-Two c =
    let g = c.self.inside in
    omega (arith, count_at_most Two 0 g.nodes.items (length g.two.items) (c.self.invariant.in_order Two))
