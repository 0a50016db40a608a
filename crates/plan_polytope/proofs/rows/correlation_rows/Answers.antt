-- There are fewer sets than nodes, and at most 4096 rows a set. Behind the first player's rows the second's begin.
use Rattle.std.proofs.Common.{length, ap, arith}
use Rattle.corr_game.specs.declared.sides.Side.TheVariants.{Two}
use Rattle.corr_game.specs.Game.{sets_of}
use Rattle.plan_polytope.proofs.FewSets.{few_sets}
use Rattle.plan_polytope.proofs.Ordering.{all_known, second_player}
use Rattle.plan_polytope.proofs.rows.correlation_rows.Goals as goal

pub returns-clause-few : goal.returns-clause-few
returns-clause-few c =
    omega (arith, ap length c.new-rows.ensures.items, c.in_ok-add_rows.ensures.few, c.in_ok-add_rows-2.ensures.few, few_sets c.args.game.now c.in_ok-add_rows.ensures.rules)

pub add_rows-requires-2-clause-listed : goal.add_rows-requires-2-clause-listed
add_rows-requires-2-clause-listed c = second_player c.args.game.now c.args.pairs.now c.add_rows.new.rows.items c.in_ok-add_rows.ensures.listed

pub returns-clause-each : goal.returns-clause-each
returns-clause-each c =
    all_known c.args.game.now c.args.pairs.now Two (length (sets_of Two c.args.game.now)) 0 c.add_rows-2.new.rows.items c.in_ok-add_rows-2.ensures.listed
