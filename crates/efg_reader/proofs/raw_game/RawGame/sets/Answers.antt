-- No more sets than nodes.
use Rattle.std.proofs.Common.{length, ◌≤◌, arith}
use Rattle.corr_game.specs.declared.sides.Side.TheVariants.{One, Two}
use Rattle.corr_game.proofs.SetCount.{count_at_most}
use Rattle.efg_reader.specs.RawGame.{bare_nodes}
use Rattle.efg_reader.proofs.raw_game.RawGame.sets.Goals as goal

pub overflow_cast-result : goal.overflow_cast-result
overflow_cast-result c =
    let few : length c.self.inside.one.items ≤ length (bare_nodes c.self.inside.nodes.items) = omega (arith, count_at_most One 0 (bare_nodes c.self.inside.nodes.items) (length c.self.inside.one.items) (c.self.invariant.tree.in_order One)) in
    omega (arith, c.len.ensures, c.self.inside.one.ok.0, few, c.self.invariant.tree.at_most)

pub overflow_cast-result-in-Two : goal.overflow_cast-result-in-Two
overflow_cast-result-in-Two c =
    let few : length c.self.inside.two.items ≤ length (bare_nodes c.self.inside.nodes.items) = omega (arith, count_at_most Two 0 (bare_nodes c.self.inside.nodes.items) (length c.self.inside.two.items) (c.self.invariant.tree.in_order Two)) in
    omega (arith, c.len-in-Two.ensures, c.self.inside.two.ok.0, few, c.self.invariant.tree.at_most)
