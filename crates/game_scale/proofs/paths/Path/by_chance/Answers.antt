use Rattle.game_scale.proofs.Chances.{reduced_product_chance}
use Rattle.game_scale.proofs.paths.Path.by_chance.Goals as goal

pub invariant_of-result : goal.invariant_of-result
invariant_of-result c = record {
  chance_is = reduced_product_chance c.times.result c.self.inside.chance c.args.prob.now c.self.invariant.chance.positive c.den-den.ensures.lowest.positive c.times.ensures c.self.invariant.probability (c.requires.1, c.requires.2);
  one_is = c.self.invariant.within.one;
  two_is = c.self.invariant.within.two;
}
