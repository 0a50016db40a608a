-- Sets with an own sequence are sets of the game.
use Rattle.corr_game.specs.declared.sides.Side.TheVariants.{One, Two}
use Rattle.corr_run.proofs.Triangles.{own_in}
use Rattle.corr_run.proofs.prepare.triangle_refusal.Goals as goal

pub file_number-requires : goal.file_number-requires
file_number-requires c = own_in One c.args.game.now c.args.pairs.now c.requires.whose _ _ c.requires.triangle.least.least.least.triangle.one.1.1

pub file_number-requires-2 : goal.file_number-requires-2
file_number-requires-2 c = own_in One c.args.game.now c.args.pairs.now c.requires.whose _ _ c.requires.triangle.least.least.least.triangle.one.1.2

pub file_number-requires-3 : goal.file_number-requires-3
file_number-requires-3 c = own_in Two c.args.game.now c.args.pairs.now c.requires.whose _ _ c.requires.triangle.least.least.least.triangle.two.1.1

pub file_number-requires-4 : goal.file_number-requires-4
file_number-requires-4 c = own_in Two c.args.game.now c.args.pairs.now c.requires.whose _ _ c.requires.triangle.least.least.least.triangle.two.1.2
